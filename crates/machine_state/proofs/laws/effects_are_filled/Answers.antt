use Rattle.machine_state.proofs.tasks.Filled.{reached_filled}
use Rattle.machine_state.proofs.laws.effects_are_filled.Goals as goal

pub returns : goal.returns
returns c p st well reached = reached_filled p reached.0 st well reached.1
