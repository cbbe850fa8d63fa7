use Rattle.floor_laws.proofs.table.nodes.Takes.{given_again}
use Rattle.floor_laws.proofs.table.nodes.turn_laws.a_taken_turn_may_be_given_again.Goals as goal

pub returns : goal.returns
returns c = given_again
