use Rattle.floor_laws.proofs.table.nodes.MarkCalls.{mark_placed}
use Rattle.floor_laws.proofs.table.nodes.record_laws.a_record_may_be_marked_placed.Goals as goal

pub returns : goal.returns
returns c = mark_placed
