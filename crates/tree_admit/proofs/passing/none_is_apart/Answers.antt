-- One record more is of the task, or may interfere with its effect.
use Rattle.std.proofs.Common.{IsTrue, sym, ◌∙◌, arith}
use Rattle.floor_laws.specs.admission.admission_core.States.{Record}
use Rattle.tree_admit.specs.Passing.{is_own_or_meets}
use Rattle.tree_admit.proofs.Between.{one_after, this_record}
use Rattle.tree_admit.proofs.passing.none_is_apart.Goals as goal

pub loop-at-preserved : goal.loop-at-preserved
loop-at-preserved c =
    let meets = λ (x : Record). IsTrue (is_own_or_meets c.args.task c.args.effect.now x) in
    let content = c.args.content.now in
    let this = this_record meets content c.loop-at.at c.in-Some.r.now c.in-Some.ensures (sym c.own_or_meets.ensures ∙ c.if-not-own_or_meets.false) in
    one_after meets content 0 c.loop-at.at this c.loop-at.invariant

pub returns : goal.returns
returns c = λ is k r from before at. c.loop-at.invariant k r from (omega (arith, before, c.loop-at-test.false)) at
