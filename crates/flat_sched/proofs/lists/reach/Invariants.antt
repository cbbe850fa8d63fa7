use Rattle.std.proofs.Common.{◌-◌, ◌+◌, ℕ, length}
use Rattle.flat_sched.specs.inner.Lists.{IsListed}
use Rattle.flat_sched.proofs.lists.reach.Given as goal

abbrev pub invariant-reaching : goal.invariant-reaching
invariant-reaching l = (u t : ℕ) → IsListed l.initial.lists u t → IsListed l.lists u t

abbrev pub decreases-reaching : goal.decreases-reaching
decreases-reaching l = l.at + 1 - length l.lists
