use Rattle.steal_pool.proofs.own.Own.open.Given as goal

abbrev pub ghosts-set_bound : goal.ghosts-set_bound
ghosts-set_bound a = record { bound = a.bound }
