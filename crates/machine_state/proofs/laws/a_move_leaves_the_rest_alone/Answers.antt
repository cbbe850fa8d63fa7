use Rattle.machine_state.proofs.tasks.LeftAlone.{moves_leave_alone}
use Rattle.machine_state.proofs.laws.a_move_leaves_the_rest_alone.Goals as goal

pub returns : goal.returns
returns c = moves_leave_alone
