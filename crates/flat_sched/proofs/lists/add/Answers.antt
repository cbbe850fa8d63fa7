use Rattle.flat_sched.proofs.lists.add.Goals as goal

pub returns-clause-kept : goal.returns-clause-kept
returns-clause-kept c = λ u s h. c.in_ok-put.ensures.kept u s (c.in_ok-reach.ensures.kept u s h)
