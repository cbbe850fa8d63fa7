use Rattle.floor_laws.proofs.rule.QuietLemmas.{starts}
use Rattle.floor_laws.proofs.rule.laws.a_floor_starts_by_the_rule.Goals as goal

pub returns : goal.returns
returns c p lim log st run order prints = starts p lim log st run order prints
