use Rattle.std.proofs.Common.{◌≡◌, ◌<◌, ℕ, Some}
use Rattle.std.specs.Prelude.{slice_get}
use Rattle.flat_sched.specs.inner.Lists.{IsReady}
use Rattle.flat_sched.proofs.noting.wake.Given as goal

abbrev pub invariant-loop-t : goal.invariant-loop-t
invariant-loop-t l = record {
  woken : (i t : ℕ) → i < l.t-index → slice_get l.tasks i ≡ Some t → IsReady l.ready t;
  kept : (t : ℕ) → IsReady l.initial.ready t → IsReady l.ready t;
}
