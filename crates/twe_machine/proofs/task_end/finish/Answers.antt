use Rattle.std.proofs.Common.{◌≡◌}
use Rattle.std.proofs.lemmas.Int.{to_z-of_z}
use Rattle.machine_state.specs.declared.state.TaskStatus.TheVariants.{Done}
use Rattle.machine_state.proofs.tasks.Ended.{finished_is}
use Rattle.twe_machine.proofs.task_end.finish.Goals as goal

pub returns-clause-state : goal.returns-clause-state
returns-clause-state c =
    λ row here.
    let row_ends : c.end_row.new.row ≡ record c.item_mut.result.now { status = Done; value = c.args.value } = simp (to_z-of_z, c.ranges.value) at c.end_row.ensures in
    finished_is c.args.st.now c.store_frame.new.st c.args.t row c.item_mut.result.now c.end_row.new.row c.args.frame c.args.value c.set_done.new.self
    here (c.in_ok-store_frame.ensures.state row here) c.item_mut.ensures.value row_ends c.set_done.ensures
