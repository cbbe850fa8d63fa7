use Rattle.floor_laws.proofs.table.Calls.{get_phase}
use Rattle.floor_laws.proofs.table.laws.a_phase_may_be_loaded.Goals as goal

pub returns : goal.returns
returns c = get_phase
