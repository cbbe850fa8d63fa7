use Rattle.floor_laws.proofs.rule.RuleSteps.{join}
use Rattle.floor_laws.proofs.rule.laws.joining_seats_keeps_the_rule.Goals as goal

pub returns : goal.returns
returns c p lim log f i j well keeps rule may = join p well keeps lim log f rule i j may
