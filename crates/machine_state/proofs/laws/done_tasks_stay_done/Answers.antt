use Rattle.machine_state.proofs.tasks.DoneStays.{value_stays, value_stays_on}
use Rattle.machine_state.proofs.laws.done_tasks_stay_done.Goals as goal

pub returns-clause-a_move : goal.returns-clause-a_move
returns-clause-a_move c p lim st mv u value = value_stays p lim st mv.kind mv.task u value

pub returns-clause-a_journal : goal.returns-clause-a_journal
returns-clause-a_journal c = value_stays_on
