use Rattle.floor_laws.proofs.table.nodes.Calls.{stop_at}
use Rattle.floor_laws.proofs.table.nodes.lock_laws.a_seat_may_stop.Goals as goal

pub returns : goal.returns
returns c = stop_at
