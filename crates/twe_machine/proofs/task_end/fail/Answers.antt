use Rattle.machine_state.proofs.tasks.Ended.{faulted_is}
use Rattle.twe_machine.proofs.task_end.fail.Goals as goal

pub returns-clause-state : goal.returns-clause-state
returns-clause-state c =
    λ row here. faulted_is c.args.st.now c.store_frame.new.st c.args.t row c.item_mut.result.now c.args.frame c.args.kind c.args.place c.note_fault.new.first
    here (c.in_ok-store_frame.ensures.state row here) c.item_mut.ensures.value c.note_fault.ensures
