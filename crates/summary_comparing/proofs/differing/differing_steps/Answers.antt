use Rattle.std.proofs.Common.{◌≡◌, ◌+◌, Some, length, refl, sym, ◌∙◌, subst}
use Rattle.std.specs.Prelude.{slice_get}
use Rattle.std.proofs.lemmas.Option.{slice_get_read}
use Rattle.summary_comparing.specs.inner.Differing.{HasFirst}
use Rattle.summary_comparing.proofs.Numbered.{first-again, first-all, first-more}
use Rattle.summary_comparing.proofs.differing.differing_steps.Goals.{then-not-branch+in_ok-push, else-not-branch}
use Rattle.summary_comparing.proofs.differing.differing_steps.Goals as goal

-- one step more has a number, unless an equal one has
pub loop-number-preserved : goal.loop-number-preserved
loop-number-preserved c =
    let steps = c.args.steps.now in
    let number = c.loop-number.number in
    let numbers = c.loop-number.numbers in
    let step = c.index-steps-number.result in
    let at : slice_get steps number ≡ Some step = slice_get_read steps (length steps) number step refl c.loop-number-test.true c.index-steps-number.is in
    elim c.if-not-branch.branch [
      | then-not-branch+in_ok-push w ↦
          subst (HasFirst (number + 1) steps) (sym (w.numbers-is ∙ w.in_ok-push.ensures.ok))
          (first-more number steps numbers step at c.loop-number.invariant)
      | else-not-branch w ↦
          let stands = c.in_ok-is_again.ensures w.if-not-branch.false in
          subst (HasFirst (number + 1) steps) (sym w.numbers-is)
          (first-again number steps numbers step stands.0 at stands.1 stands.2 c.loop-number.invariant)
    ]

-- all steps
pub returns : goal.returns
returns c = first-all c.loop-number.number c.args.steps.now c.loop-number.numbers c.loop-number-test.false c.loop-number.invariant
