use Rattle.floor_laws.proofs.rule.nodes.AdmitEvents.{floor_keeps, nodes_admit}
use Rattle.floor_laws.proofs.rule.nodes.floor_laws.admissions_keep_the_rules.Goals as goal

pub returns-clause-floor : goal.returns-clause-floor
returns-clause-floor k nodes p lim log f tree core i t both may = floor_keeps nodes p lim log f tree core both i t may

pub returns-clause-nodes : goal.returns-clause-nodes
returns-clause-nodes k nodes p lim log f tree core i t both may = nodes_admit nodes p lim log f tree core both i t may
