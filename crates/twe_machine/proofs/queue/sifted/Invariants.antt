-- Each enabled task that was looked at is left, the tasks that are left come in their order, and who decided still does.
use Rattle.std.proofs.Common.{◌≡◌, ◌<◌, ℕ, Some, length}
use Rattle.std.specs.Prelude.{slice_get}
use Rattle.twe_machine.specs.declared.queue.Queued.{Queued}
use Rattle.machine_state.specs.declared.state.TaskStatus.TheVariants.{Enabled}
use Rattle.twe_machine.specs.Queues.{DecidesAt, IsQueued, IsDecided}
use Rattle.machine_state.specs.Rows.{HasStatus}
use Rattle.twe_machine.proofs.queue.sifted.Given as goal

abbrev pub invariant-loop-at : goal.invariant-loop-at
invariant-loop-at l = record {
  kept : (i : ℕ) (e : Queued) → i < l.at → slice_get l.entries i ≡ Some e → HasStatus l.st e.task Enabled → IsQueued l.left e.task;
  back : (j : ℕ) (g : Queued) → slice_get l.left j ≡ Some g → (i : ℕ) × (e : Queued) × (i < l.at) × (slice_get l.entries i ≡ Some e) × (e.task ≡ g.task);
  decided : IsDecided l.st.links l.left;
  decides : (d : ℕ) → l.decider ≡ Some d → (d < length l.left) × DecidesAt l.st.links l.left d;
}
