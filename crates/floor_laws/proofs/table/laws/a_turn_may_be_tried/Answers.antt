use Rattle.floor_laws.proofs.table.Calls.{try_turn}
use Rattle.floor_laws.proofs.table.laws.a_turn_may_be_tried.Goals as goal

pub returns : goal.returns
returns c = try_turn
