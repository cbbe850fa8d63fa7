use Rattle.std.proofs.Common.{arith}
use Rattle.machine_state.proofs.tasks.Settled.{made_is}
use Rattle.twe_machine.proofs.making.make.Goals as goal

pub returns-clause-state : goal.returns-clause-state
returns-clause-state c =
    λ row here.
    let rows = c.in_ok-store_frame.ensures.rows in
    made_is c.args.lim c.args.st.now c.store_frame.new.st c.add_task.new.st c.args.t row c.args.frame c.note_child.new.frame c.args.how.future c.args.how.spawned c.args.task.frame c.args.task.args c.args.task.effects c.parent_of.result
    c.note_child.ensures (c.in_ok-store_frame.ensures.state row here) c.parent_of.ensures (omega (arith, rows)) c.in_ok-add_task.ensures
