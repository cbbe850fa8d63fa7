use Rattle.std.proofs.Common.{◌-◌, ◌++◌, ℕ, ap, ◌∙◌}
use Rattle.std.specs.Prelude.{codes}
use Rattle.std.proofs.lemmas.Result.{on_ok_weaker}
use Rattle.twe_advise.specs.Texts.{held_text, word_number}
use Rattle.twe_advise.proofs.Pieces.{three_left}
use Rattle.twe_advise.proofs.text.push_held.Goals as goal

pub returns : goal.returns
unfolding held_text
returns c =
    on_ok_weaker c.push_all.result
    (three_left c.args.text.now (word_number (codes "held span ") c.args.held) (word_number (codes ": the order of admissions adds ") (c.args.held - c.args.span))
    (codes "\n") c.push_number.new.text c.push_number-2.new.text c.push_all.new.self
    (c.in_ok-push_number.ensures ∙ ap (λ (n : ℕ). c.args.text.now ++ word_number (codes "held span ") n) c.from.ensures)
    (c.in_ok-push_number-2.ensures ∙ ap (λ (n : ℕ). c.push_number.new.text ++ word_number (codes ": the order of admissions adds ") n) (c.from-2.ensures ∙ c.saturating_sub.ensures)))
    c.push_all.ensures.ok
