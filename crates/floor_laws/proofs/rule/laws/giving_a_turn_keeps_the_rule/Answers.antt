use Rattle.floor_laws.proofs.rule.RuleSteps.{give}
use Rattle.floor_laws.proofs.rule.laws.giving_a_turn_keeps_the_rule.Goals as goal

pub returns : goal.returns
returns c p lim log f i t turn well keeps rule may = give p well keeps lim log f rule i t turn may
