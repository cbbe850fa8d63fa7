use Rattle.floor_laws.proofs.table.nodes.FloorCalls.{store_cell}
use Rattle.floor_laws.proofs.table.nodes.floor_laws.a_cell_may_be_stored_beside_nodes.Goals as goal

pub returns : goal.returns
returns c = store_cell
