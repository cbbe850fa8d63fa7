use Rattle.floor_laws.proofs.table.nodes.Closings.{closed_shows}
use Rattle.floor_laws.proofs.table.nodes.quiet_laws.a_closed_tree_table_shows_the_rest.Goals as goal

pub returns : goal.returns
returns c = closed_shows
