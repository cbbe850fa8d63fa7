-- One zero more.
use Rattle.std.proofs.Common.{List, ℤ, pos, [], ◌∷◌, ◌++◌, replicate, ap, ◌∙◌}
use Rattle.std.proofs.lemmas.List.{append_assoc, replicate_more}
use Rattle.seg_exec.specs.inner.steps.Bodies.{Bodies, with_active}
use Rattle.seg_exec.proofs.body.push_zeros.Goals as goal

pub loop-preserved : goal.loop-preserved
loop-preserved c =
    c.in_ok-push.ensures ∙ ap (λ (b : Bodies). with_active (b.active ++ pos 0 ∷ []) b) c.loop.invariant
    ∙ ap (λ (vars : List ℤ). with_active vars c.args.vars.now)
    (append_assoc c.args.vars.now.active (replicate c.loop.counter (pos 0)) (pos 0 ∷ [])
    ∙ ap (λ (zeros : List ℤ). c.args.vars.now.active ++ zeros) (replicate_more c.loop.counter (pos 0)))
