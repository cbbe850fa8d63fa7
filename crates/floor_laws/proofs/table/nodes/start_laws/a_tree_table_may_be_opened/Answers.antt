use Rattle.floor_laws.proofs.table.nodes.Starts.{opens}
use Rattle.floor_laws.proofs.table.nodes.start_laws.a_tree_table_may_be_opened.Goals as goal

pub returns : goal.returns
returns c = opens
