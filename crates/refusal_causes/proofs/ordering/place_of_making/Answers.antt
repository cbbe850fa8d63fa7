use Rattle.std.proofs.Common.{◌∙◌, sym}
use Rattle.std.proofs.lemmas.Option.{IfSome_then}
use Rattle.refusal_causes.specs.inner.Keeping.{IsDone, IsNoMake}
use Rattle.refusal_causes.proofs.Joins.{made_by}
use Rattle.refusal_causes.proofs.Loops.{at_item, not_some, one_more, whole}
use Rattle.refusal_causes.proofs.ordering.place_of_making.Goals as goal

-- this act makes it
pub returns-then-is_some-clause-found : goal.returns-then-is_some-clause-found
returns-then-is_some-clause-found c =
    let p = c.args.p.now in
    let task = c.args.task.now in
    IfSome_then c.place_if_making-found.result c.place_if_making-found.ensures.found
    (made_by p task c.act-item.result c.args.future
    (at_item (IsDone p task) c.args.acts.now c.loop-act.act-index c.act-item.result c.loop-act-test.true c.act-item.is c.requires))

-- nor does this act
pub loop-act-preserved : goal.loop-act-preserved
loop-act-preserved c =
    one_more (IsNoMake c.args.future) c.args.acts.now c.loop-act.act-index c.act-item.result c.loop-act-test.true c.act-item.is
    c.loop-act.invariant
    (not_some (IsNoMake c.args.future c.act-item.result) c.place_if_making-found.result (sym c.is_some.ensures ∙ c.if-is_some.false)
    c.place_if_making-found.ensures.none)

-- none of all
pub returns-clause-none : goal.returns-clause-none
returns-clause-none c =
    whole (IsNoMake c.args.future) c.args.acts.now c.loop-act.act-index c.loop-act-test.false c.loop-act.invariant
