use Rattle.floor_laws.proofs.rule.RuleSteps.{store}
use Rattle.floor_laws.proofs.rule.laws.stores_keep_the_rule.Goals as goal

pub returns : goal.returns
returns c p lim log f i t cell value well keeps rule may = store p well keeps lim log f rule i t cell value may
