use Rattle.effect_sets.proofs.Sets.{interferes-exact}
use Rattle.effect_sets.proofs.interference.interferes.Goals as goal

pub returns-clause-sets : goal.returns-clause-sets
returns-clause-sets c =
    interferes-exact c.args.a.now c.args.b.now c.may_interfere.result c.may_interfere.ensures
