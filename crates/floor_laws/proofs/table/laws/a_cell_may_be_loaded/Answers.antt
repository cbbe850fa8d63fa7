use Rattle.floor_laws.proofs.table.Calls.{get_cell}
use Rattle.floor_laws.proofs.table.laws.a_cell_may_be_loaded.Goals as goal

pub returns : goal.returns
returns c = get_cell
