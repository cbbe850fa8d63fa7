use Rattle.floor_laws.proofs.table.nodes.Calls.{go_on}
use Rattle.floor_laws.proofs.table.nodes.lock_laws.a_node_may_be_left.Goals as goal

pub returns : goal.returns
returns c = go_on
