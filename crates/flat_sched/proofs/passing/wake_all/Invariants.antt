use Rattle.std.proofs.Common.{◌⊎◌, ℕ, length}
use Rattle.flat_sched.specs.inner.Lists.{IsReady}
use Rattle.flat_sched.proofs.passing.wake_all.Given as goal

abbrev pub invariant-waking : goal.invariant-waking
invariant-waking l = record {
  woken : (t : ℕ) → IsReady l.initial.tasks t → IsReady l.ready t ⊎ IsReady l.tasks t;
  kept : (t : ℕ) → IsReady l.initial.ready t → IsReady l.ready t;
}

abbrev pub decreases-waking : goal.decreases-waking
decreases-waking l = length l.tasks
