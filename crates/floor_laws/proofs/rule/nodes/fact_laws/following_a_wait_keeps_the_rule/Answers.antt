use Rattle.floor_laws.proofs.rule.nodes.Facts.{following}
use Rattle.floor_laws.proofs.rule.nodes.fact_laws.following_a_wait_keeps_the_rule.Goals as goal

pub returns : goal.returns
returns k nodes p lim log f tree core i s u v both known phase = following nodes p lim log f tree core both i s u v known phase
