use Rattle.floor_laws.proofs.table.Calls.{give_turn}
use Rattle.floor_laws.proofs.table.laws.a_turn_may_be_given.Goals as goal

pub returns : goal.returns
returns c = give_turn
