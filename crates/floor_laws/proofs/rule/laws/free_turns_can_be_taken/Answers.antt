use Rattle.floor_laws.proofs.rule.RuleSteps.{take}
use Rattle.floor_laws.proofs.rule.laws.free_turns_can_be_taken.Goals as goal

pub returns : goal.returns
returns c p lim log f i t well keeps rule free = take p well keeps lim log f rule i t free
