use Rattle.floor_laws.proofs.table.Seats.{split_allowed}
use Rattle.floor_laws.proofs.table.laws.a_seat_may_be_split.Goals as goal

pub returns : goal.returns
returns c = split_allowed
