use Rattle.floor_laws.proofs.table.nodes.MarkCalls.{mark_removed}
use Rattle.floor_laws.proofs.table.nodes.record_laws.a_record_may_be_marked_removed.Goals as goal

pub returns : goal.returns
returns c = mark_removed
