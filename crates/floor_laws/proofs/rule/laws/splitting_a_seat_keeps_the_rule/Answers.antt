use Rattle.floor_laws.proofs.rule.RuleSteps.{split}
use Rattle.floor_laws.proofs.rule.laws.splitting_a_seat_keeps_the_rule.Goals as goal

pub returns : goal.returns
returns c p lim log f i worker well keeps rule none = split p well keeps lim log f rule i worker none
