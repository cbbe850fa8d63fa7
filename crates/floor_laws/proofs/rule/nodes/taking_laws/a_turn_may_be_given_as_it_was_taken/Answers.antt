use Rattle.floor_laws.proofs.rule.nodes.Takings.{given_as_taken}
use Rattle.floor_laws.proofs.rule.nodes.taking_laws.a_turn_may_be_given_as_it_was_taken.Goals as goal

pub returns : goal.returns
returns k = given_as_taken
