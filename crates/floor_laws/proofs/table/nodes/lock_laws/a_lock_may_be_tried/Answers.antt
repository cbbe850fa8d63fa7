use Rattle.floor_laws.proofs.table.nodes.Calls.{try_lock}
use Rattle.floor_laws.proofs.table.nodes.lock_laws.a_lock_may_be_tried.Goals as goal

pub returns : goal.returns
returns c = try_lock
