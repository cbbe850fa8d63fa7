use Rattle.std.proofs.Common.{All, sym, ◌∙◌, subst}
use Rattle.std.proofs.lemmas.List.Elements.{All-push}
use Rattle.effect_infer.specs.declared.needs.need.Need.{Need}
use Rattle.effect_infer.specs.Crowded.{IsWitness}
use Rattle.effect_infer.proofs.crowd.witnesses.Goals.{in-Some+in_ok-copy+in_ok-push, in_default}
use Rattle.effect_infer.proofs.crowd.witnesses.Goals as goal

-- one more, if there is one
pub loop-place-preserved : goal.loop-place-preserved
loop-place-preserved c =
    let Fits : Need → Type 0 = IsWitness c.args.all.now c.args.method c.args.least in
    elim c.match-witness.branch [
      | in-Some+in_ok-copy+in_ok-push w ↦
          subst (All Fits) (sym (w.needs-is ∙ w.in_ok-push.ensures.ok))
          (All-push Fits c.loop-place.needs w.in_ok-copy.field-0 c.loop-place.invariant (subst Fits (sym w.in_ok-copy.ensures) w.in-Some.ensures))
      | in_default w ↦ subst (All Fits) (sym w.needs-is) c.loop-place.invariant
    ]
