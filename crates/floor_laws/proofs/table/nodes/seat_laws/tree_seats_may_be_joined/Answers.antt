use Rattle.floor_laws.proofs.table.nodes.Joins.{join_tree}
use Rattle.floor_laws.proofs.table.nodes.seat_laws.tree_seats_may_be_joined.Goals as goal

pub returns : goal.returns
returns c = join_tree
