use Rattle.floor_laws.proofs.table.Calls.{put_cell}
use Rattle.floor_laws.proofs.table.laws.a_cell_may_be_stored.Goals as goal

pub returns : goal.returns
returns c = put_cell
