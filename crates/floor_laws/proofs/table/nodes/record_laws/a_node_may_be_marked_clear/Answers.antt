use Rattle.floor_laws.proofs.table.nodes.MarkCalls.{mark_clear}
use Rattle.floor_laws.proofs.table.nodes.record_laws.a_node_may_be_marked_clear.Goals as goal

pub returns : goal.returns
returns c = mark_clear
