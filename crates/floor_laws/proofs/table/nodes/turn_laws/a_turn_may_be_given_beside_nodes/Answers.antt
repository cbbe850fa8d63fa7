use Rattle.floor_laws.proofs.table.nodes.Gives.{give_tree_turn}
use Rattle.floor_laws.proofs.table.nodes.turn_laws.a_turn_may_be_given_beside_nodes.Goals as goal

pub returns : goal.returns
returns c nodes p lim id v mine has t turn rest live below may = give_tree_turn nodes p lim id v mine has t turn rest may live below
