use Rattle.floor_laws.proofs.rule.RuleSteps.{store_phase}
use Rattle.floor_laws.proofs.rule.laws.storing_a_phase_keeps_the_rule.Goals as goal

pub returns : goal.returns
returns c p lim log f i t turn phase well keeps rule may = store_phase p well keeps lim log f rule i t turn phase may
