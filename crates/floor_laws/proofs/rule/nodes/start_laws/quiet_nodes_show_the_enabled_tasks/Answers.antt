use Rattle.floor_laws.proofs.rule.nodes.Quiet.{shows_enabled}
use Rattle.floor_laws.proofs.rule.nodes.start_laws.quiet_nodes_show_the_enabled_tasks.Goals as goal

pub returns : goal.returns
returns k nodes p lim log f tree core both none = shows_enabled nodes p lim log f tree core both none
