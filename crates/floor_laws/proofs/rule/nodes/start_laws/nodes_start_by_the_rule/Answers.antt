use Rattle.floor_laws.proofs.rule.nodes.Rests.{starts}
use Rattle.floor_laws.proofs.rule.nodes.start_laws.nodes_start_by_the_rule.Goals as goal

pub returns : goal.returns
returns k = starts
