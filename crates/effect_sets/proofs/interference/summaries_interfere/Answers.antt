use Rattle.effect_sets.proofs.Sets.{some_interfere-exact}
use Rattle.effect_sets.proofs.interference.summaries_interfere.Goals as goal

pub returns-clause-sets : goal.returns-clause-sets
returns-clause-sets c =
    some_interfere-exact c.args.a.now.effects c.args.b.now.effects c.some_interfere.result c.some_interfere.ensures
