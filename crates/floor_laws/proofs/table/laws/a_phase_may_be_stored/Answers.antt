use Rattle.floor_laws.proofs.table.Calls.{put_phase}
use Rattle.floor_laws.proofs.table.laws.a_phase_may_be_stored.Goals as goal

pub returns : goal.returns
returns c = put_phase
