use Rattle.machine_state.proofs.tasks.DoneFirst.{joined_done, children_joined}
use Rattle.machine_state.proofs.laws.children_are_done_first.Goals as goal

pub returns : goal.returns
returns c = record { joined = joined_done; children = children_joined }
