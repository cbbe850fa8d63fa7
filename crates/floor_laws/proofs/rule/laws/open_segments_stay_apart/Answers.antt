use Rattle.floor_laws.proofs.rule.RuleSteps.{opened_apart, opened_covered}
use Rattle.floor_laws.proofs.rule.laws.open_segments_stay_apart.Goals as goal

pub returns-clause-covered : goal.returns-clause-covered
returns-clause-covered c p lim log f i s access well keeps rule is among = opened_covered p well keeps lim log f rule i s access is among

pub returns-clause-apart : goal.returns-clause-apart
returns-clause-apart c p lim log f i j cell s r value well keeps rule differ at_i at_j written = opened_apart p well keeps lim log f rule i j cell s r value differ at_i at_j written
