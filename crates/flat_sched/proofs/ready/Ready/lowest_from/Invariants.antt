use Rattle.std.proofs.Common.{ℕ, length}
use Rattle.flat_sched.specs.inner.Lists.{IsReadyFrom}
use Rattle.flat_sched.proofs.ready.Ready.lowest_from.Given as goal

abbrev pub invariant-dropping : goal.invariant-dropping
invariant-dropping l = (u : ℕ) → IsReadyFrom l.from l.initial.self u → IsReadyFrom l.from l.self u

abbrev pub decreases-dropping : goal.decreases-dropping
decreases-dropping l = length l.self
