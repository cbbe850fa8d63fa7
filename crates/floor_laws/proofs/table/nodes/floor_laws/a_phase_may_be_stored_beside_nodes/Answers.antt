use Rattle.floor_laws.proofs.table.nodes.PhaseCalls.{store_phase}
use Rattle.floor_laws.proofs.table.nodes.floor_laws.a_phase_may_be_stored_beside_nodes.Goals as goal

pub returns : goal.returns
returns c = store_phase
