use Rattle.floor_laws.proofs.rule.nodes.TurnEvents.{gives_first}
use Rattle.floor_laws.proofs.rule.nodes.floor_laws.giving_a_first_turn_keeps_the_nodes.Goals as goal

pub returns : goal.returns
returns k nodes p lim log f tree core i t turn both may = gives_first nodes p lim log f tree core both i t turn may
