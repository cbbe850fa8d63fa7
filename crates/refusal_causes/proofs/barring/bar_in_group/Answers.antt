use Rattle.effect_check.specs.declared.act.Act.{Act}
use Rattle.refusal_causes.specs.inner.Keeping.{IsDone, IsFollowed, IsNoBar}
use Rattle.refusal_causes.proofs.Loops.{at_item, not_found, one_more, whole}
use Rattle.refusal_causes.proofs.barring.bar_in_group.Goals as goal

-- the act is one of the task's
pub bar_by-requires-clause-done : goal.bar_by-requires-clause-done
bar_by-requires-clause-done c =
    at_item (IsDone c.args.p.now c.args.task.now) c.args.makes.now c.loop-act.act-index c.act-item.result c.loop-act-test.true c.act-item.is
    c.requires.done

-- its future is followed
pub bar_by-requires-clause-followed : goal.bar_by-requires-clause-followed
bar_by-requires-clause-followed c =
    at_item (λ (act : Act). IsFollowed c.args.points.now.first act.kind) c.args.makes.now c.loop-act.act-index c.act-item.result
    c.loop-act-test.true c.act-item.is c.requires.followed

-- one spawn more bars none
pub loop-act-preserved : goal.loop-act-preserved
loop-act-preserved c =
    let P = IsNoBar c.args.task.now c.args.point c.args.needs.now in
    one_more P c.args.makes.now c.loop-act.act-index c.act-item.result c.loop-act-test.true c.act-item.is c.loop-act.invariant
    (not_found (P c.act-item.result) c.in_ok-found.found c.in_default.is c.in_ok-found.ensures.none)

-- none bars one
pub returns-clause-none : goal.returns-clause-none
returns-clause-none c =
    whole (IsNoBar c.args.task.now c.args.point c.args.needs.now) c.args.makes.now c.loop-act.act-index c.loop-act-test.false
    c.loop-act.invariant
