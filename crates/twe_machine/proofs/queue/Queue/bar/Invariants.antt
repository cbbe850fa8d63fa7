-- None of those looked at so far is a bar.
use Rattle.std.proofs.Common.{◌≡◌, ◌<◌, ◌-◌, ℕ, Some, length}
use Rattle.std.specs.Prelude.{slice_get}
use Rattle.twe_machine.specs.declared.queue.Queued.{Queued}
use Rattle.twe_machine.specs.Queues.{IsNoBar}
use Rattle.twe_machine.proofs.queue.Queue.bar.Given as goal

abbrev pub invariant-looking : goal.invariant-looking
invariant-looking l = (i : ℕ) (e : Queued) → i < l.at → slice_get l.self.entries i ≡ Some e → IsNoBar l.st l.t e.task

abbrev pub decreases-looking : goal.decreases-looking
decreases-looking l = length l.self.entries - l.at
