use Rattle.floor_laws.proofs.rule.nodes.TurnEvents.{takes}
use Rattle.floor_laws.proofs.rule.nodes.floor_laws.taking_a_turn_keeps_the_nodes.Goals as goal

pub returns : goal.returns
returns k nodes p lim log f tree core i t turn both free taken = takes nodes p lim log f tree core both i t turn free taken
