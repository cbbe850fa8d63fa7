use Rattle.floor_laws.proofs.table.nodes.Splits.{split_tree}
use Rattle.floor_laws.proofs.table.nodes.seat_laws.a_tree_seat_may_be_split.Goals as goal

pub returns : goal.returns
returns c = split_tree
