use Rattle.floor_laws.proofs.rule.nodes.Rests.{wakes}
use Rattle.floor_laws.proofs.rule.nodes.start_laws.nodes_wake_by_the_rule.Goals as goal

pub returns : goal.returns
returns k = wakes
