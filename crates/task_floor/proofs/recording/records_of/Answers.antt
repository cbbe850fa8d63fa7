use Rattle.std.proofs.Common.{◌+◌, List, length, sym, ap, subst, ◌∙◌, arith}
use Rattle.std.specs.Prelude.{slice_get}
use Rattle.machine_state.specs.declared.state.TaskRow.{TaskRow}
use Rattle.floor_laws.specs.rule.nodes.Starts.{AreOfEnabled}
use Rattle.task_floor.proofs.steps.Readings.{item_there}
use Rattle.task_floor.proofs.Gathered.{all_tasks, first_tasks, no_task_yet, task_added}
use Rattle.task_floor.proofs.recording.records_of.Goals as goal

pub loop-t-init : goal.loop-t-init
loop-t-init c = subst (AreOfEnabled c.args.shape.now (first_tasks c.args.st.now 0)) (sym c.new-records.ensures) (no_task_yet c.args.shape.now c.args.st.now)

pub loop-t-preserved : goal.loop-t-preserved
loop-t-preserved c =
    let added = c.in_ok-add_row.ensures in
    let row = c.row-item.result in
    let here = sym (ap (λ (l : List TaskRow). slice_get l c.loop-t.t) c.as_slice-row-items.ensures)
    ∙ item_there c.as_slice-row-items.result.now c.loop-t.t row c.loop-t-test.true c.row-item.is in
    subst (AreOfEnabled c.args.shape.now (first_tasks c.args.st.now (c.loop-t.t + 1))) (sym added.1)
    (task_added c.args.shape.now c.args.st.now c.loop-t.t row here c.loop-t.records added.0 c.loop-t.invariant added.2)

pub returns : goal.returns
returns c =
    let past = c.loop-t-test.false in
    let count = ap length c.as_slice-row-items.ensures in
    all_tasks c.args.shape.now c.args.st.now c.loop-t.t c.loop-t.records (omega (arith, past, count)) c.loop-t.invariant
