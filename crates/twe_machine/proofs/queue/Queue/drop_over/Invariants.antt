-- No enabled task was taken out.
use Rattle.std.proofs.Common.{ℕ, length}
use Rattle.machine_state.specs.declared.state.TaskStatus.TheVariants.{Enabled}
use Rattle.twe_machine.specs.Queues.{IsQueued, IsDecided}
use Rattle.machine_state.specs.Rows.{HasStatus}
use Rattle.twe_machine.proofs.queue.Queue.drop_over.Given as goal

abbrev pub invariant-dropping : goal.invariant-dropping
invariant-dropping l = record {
  kept : (s : ℕ) → HasStatus l.st s Enabled → IsQueued l.initial.self.entries s → IsQueued l.self.entries s;
  decided : IsDecided l.st.links l.initial.self.entries → IsDecided l.st.links l.self.entries;
}

abbrev pub decreases-dropping : goal.decreases-dropping
decreases-dropping l = length l.self.entries
