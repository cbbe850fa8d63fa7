use Rattle.effect_sets.proofs.Sets.{covers-exact}
use Rattle.effect_sets.proofs.cover.covers.Goals as goal

pub returns-clause-sets : goal.returns-clause-sets
returns-clause-sets c =
    covers-exact c.args.s.now.effects c.args.e.now c.some_covers.result c.some_covers.ensures
