use Rattle.std.proofs.Common.{◌-◌, ◌+◌, length}
use Rattle.opt_crew.proofs.learned.reach.Given as goal

abbrev pub decreases-reaching : goal.decreases-reaching
decreases-reaching l = l.decl + 1 - length l.tallies
