use Rattle.floor_laws.proofs.rule.nodes.Facts.{finding_clear}
use Rattle.floor_laws.proofs.rule.nodes.fact_laws.not_finding_a_record_keeps_the_rule.Goals as goal

pub returns : goal.returns
returns k nodes p lim log f tree core i r both finds = finding_clear nodes p lim log f tree core both i r finds
