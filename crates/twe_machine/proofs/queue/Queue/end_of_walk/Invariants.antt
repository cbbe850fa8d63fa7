-- The entries from the first place on up to the next one wait for the task that was reached.
use Rattle.std.proofs.Common.{◌≡◌, ◌≤◌, ◌<◌, ◌-◌, ℕ, Some, length}
use Rattle.std.specs.Prelude.{slice_get}
use Rattle.wait_graph.specs.Waiting.{WaitsOn}
use Rattle.twe_machine.specs.declared.queue.Queued.{Queued}
use Rattle.twe_machine.proofs.queue.Queue.end_of_walk.Given as goal

abbrev pub invariant-walking : goal.invariant-walking
invariant-walking l = (i : ℕ) (e : Queued) → l.from ≤ i → i < l.next → slice_get l.self.entries i ≡ Some e → WaitsOn l.st.links e.task l.at

abbrev pub decreases-walking : goal.decreases-walking
decreases-walking l = length l.st.links - l.at
