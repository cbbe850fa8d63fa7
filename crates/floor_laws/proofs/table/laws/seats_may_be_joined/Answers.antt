use Rattle.floor_laws.proofs.table.Seats.{join_allowed}
use Rattle.floor_laws.proofs.table.laws.seats_may_be_joined.Goals as goal

pub returns : goal.returns
returns c = join_allowed
