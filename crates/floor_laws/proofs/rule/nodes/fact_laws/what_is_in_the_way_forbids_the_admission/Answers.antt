use Rattle.floor_laws.proofs.rule.nodes.Bars.{forbidden}
use Rattle.floor_laws.proofs.rule.nodes.fact_laws.what_is_in_the_way_forbids_the_admission.Goals as goal

pub returns : goal.returns
returns k nodes p lim log f tree core i t r both only bar = forbidden nodes p lim log f tree core both i t r only bar
