-- What was found is the number.
use Rattle.tree_admit.proofs.ways.ReachLemmas.{found_part}
use Rattle.tree_admit.proofs.ways.reach.part_with.Goals as goal

pub returns-in-Ok-clause-has : goal.returns-in-Ok-clause-has
returns-in-Ok-clause-has c there = found_part c.args.numbers.now c.in-Ok.at c.args.number c.in-Ok.ensures.bound (c.in-Ok.ensures.ok 0)
