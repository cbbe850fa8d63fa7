use Rattle.std.proofs.Common.{arith}
use Rattle.seg_meaning.proofs.Results.{if_ok_map}
use Rattle.machine_state.proofs.lists.Places.{below_there}
use Rattle.machine_state.proofs.tasks.Settled.{settled_is}
use Rattle.twe_machine.proofs.settling.settle.Goals as goal

-- the taking of a join leaves as many rows and links
pub stop_task-requires : goal.stop_task-requires
stop_task-requires c =
    let j = c.take_join.ensures in
    record {
      there = omega (arith, j.rows);
      linked = j.linked;
      number = λ below. omega (arith, j.rows, j.asked, c.requires.number (omega (arith, j.asked)));
      few = omega (arith, j.asked);
      above = λ on waits. let a = c.requires.above on waits in (a.0, omega (arith, a.1, j.rows));
      room = c.requires.room;
    }

pub returns : goal.returns
returns c =
    let row = below_there c.args.st.now.tasks c.args.t c.requires.there in
    if_ok_map c.stop_task.result
    (λ end stops. settled_is c.args.lim c.args.st.now c.take_join.new.st c.args.t row.0 c.args.frame c.args.stop (c.stop_task.new.st, end) row.1 (c.take_join.ensures.state row.0 row.1) (stops row.0 (c.take_join.ensures.kept row.0 row.1)))
    c.stop_task.ensures
