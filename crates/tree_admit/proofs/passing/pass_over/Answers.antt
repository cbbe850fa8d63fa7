-- The record at which the loop stops is not passed over; one that is joins those behind it.
use Rattle.std.proofs.Common.{◌≡◌, ◌-◌, false, IsTrue, sym, ap, ◌∙◌, arith}
use Rattle.std.specs.Prelude.{slice_get}
use Rattle.floor_laws.specs.admission.admission_core.States.{Record}
use Rattle.tree_admit.specs.Passing.{is_passed_over}
use Rattle.tree_admit.proofs.Between.{one_before, this_record}
use Rattle.tree_admit.proofs.passing.pass_over.Goals as goal

pub returns-then-not-passes_at-clause-stops : goal.returns-then-not-passes_at-clause-stops
returns-then-not-passes_at-clause-stops c = λ k r is at.
    let content = c.args.content.now in
    let last = c.loop-rest.rest - 1 in
    let here : k ≡ last = omega (arith, is) in
    this_record (λ (x : Record). is_passed_over c.args.task c.args.effect.now c.args.at x ≡ false) content last c.in-Some.r.now
    c.in-Some.ensures
    (sym c.passes_at.ensures ∙ c.if-not-passes_at.true) r
    (ap (slice_get content) (sym here) ∙ at)

pub loop-rest-preserved : goal.loop-rest-preserved
loop-rest-preserved c =
    let over = λ (x : Record). IsTrue (is_passed_over c.args.task c.args.effect.now c.args.at x) in
    let content = c.args.content.now in
    let last = c.loop-rest.rest - 1 in
    let this = this_record over content last c.in-Some.r.now c.in-Some.ensures (sym c.passes_at.ensures ∙ c.if-not-passes_at.false) in
    record {
      fewer = omega arith;
      passed = one_before over content last c.loop-rest.rest c.args.left (omega arith) this c.loop-rest.invariant.passed;
    }
