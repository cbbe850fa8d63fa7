use Rattle.floor_laws.proofs.rule.RuleSteps.{commit}
use Rattle.floor_laws.proofs.rule.laws.entries_keep_the_rule.Goals as goal

pub returns : goal.returns
returns c p lim log f i t turn frame stop well keeps rule may = commit p well keeps lim log f rule i t turn frame stop may
