use Rattle.std.proofs.Common.{ℕ, ◌∙◌, ap, add-one, sym}
use Rattle.twe_frontend.specs.Lines.{after_line, after_lines}
use Rattle.twe_frontend.proofs.lines.after_lines.Goals as goal

-- one more line is passed over
pub loop-preserved : goal.loop-preserved
loop-preserved c =
    c.after_line-rest.ensures ∙ ap after_line c.loop.invariant
    ∙ ap (λ (n : ℕ). after_lines n c.args.text.now) (sym (add-one c.loop.counter))
