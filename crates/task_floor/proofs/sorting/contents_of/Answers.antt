use Rattle.std.proofs.Common.{List, [], ◌∷◌, ◌++◌, take, sym, subst, arith}
use Rattle.floor_laws.specs.admission.admission_core.States.{Record}
use Rattle.task_floor.proofs.steps.Taken.{take_item}
use Rattle.task_floor.specs.inner.Recording.{HoldRecords}
use Rattle.task_floor.proofs.Sorted.{item_among, item_new, new_here, none_yet, record_added}
use Rattle.task_floor.proofs.sorting.contents_of.Goals as goal

pub loop-standing-init : goal.loop-standing-init
loop-standing-init c = subst (HoldRecords c.args.nodes []) (sym c.in_ok-contents.ensures) (none_yet c.args.nodes)

pub add_copy-requires-clause-node : goal.add_copy-requires-clause-node
add_copy-requires-clause-node c =
    let low = c.requires.within c.standing-item.result (item_among c.args.records.now c.loop-standing.standing-index c.standing-item.result c.loop-standing-test.true c.standing-item.is) in
    let count = c.loop-standing.invariant.count in
    omega (arith, low, count)

pub add_copy-requires-clause-added : goal.add_copy-requires-clause-added
add_copy-requires-clause-added c =
    let i = c.loop-standing.standing-index in
    let r = c.standing-item.result in
    let low = c.requires.within r (item_among c.args.records.now i r c.loop-standing-test.true c.standing-item.is) in
    λ content there among.
    new_here c.args.nodes (take i c.args.records.now) c.loop-standing.contents r c.loop-standing.invariant low
    (item_new c.args.records.now i r c.requires.once c.loop-standing-test.true c.standing-item.is) content there among

pub loop-standing-preserved : goal.loop-standing-preserved
loop-standing-preserved c =
    let i = c.loop-standing.standing-index in
    let r = c.standing-item.result in
    let low = c.requires.within c.standing-item.result (item_among c.args.records.now i r c.loop-standing-test.true c.standing-item.is) in
    subst (λ (l : List Record). HoldRecords c.args.nodes l c.add_copy.new.contents) (sym (take_item c.args.records.now i r c.loop-standing-test.true c.standing-item.is))
    (subst (HoldRecords c.args.nodes (take c.loop-standing.standing-index c.args.records.now ++ c.standing-item.result ∷ [])) (sym c.in_ok-add_copy.ensures)
    (record_added c.args.nodes (take i c.args.records.now) c.loop-standing.contents r c.loop-standing.invariant low
    (item_new c.args.records.now i r c.requires.once c.loop-standing-test.true c.standing-item.is)))
