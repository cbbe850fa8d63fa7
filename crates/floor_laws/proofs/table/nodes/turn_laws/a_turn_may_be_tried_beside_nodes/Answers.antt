use Rattle.floor_laws.proofs.table.nodes.Takes.{try_tree_turn}
use Rattle.floor_laws.proofs.table.nodes.turn_laws.a_turn_may_be_tried_beside_nodes.Goals as goal

pub returns : goal.returns
returns c nodes p lim id v mine has t live below = try_tree_turn nodes p lim id v mine has t below live
