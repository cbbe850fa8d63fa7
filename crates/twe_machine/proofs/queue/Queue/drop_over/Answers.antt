-- The last task is over, so no enabled one is lost with it.
use Rattle.std.proofs.Common.{◌≡◌, ◌-◌, ℕ, List, Some, length, sym, subst, arith}
use Rattle.std.specs.Prelude.{slice_get}
use Rattle.twe_machine.specs.declared.queue.Queued.{Queued}
use Rattle.machine_state.specs.declared.state.TaskStatus.TheVariants.{Enabled}
use Rattle.twe_machine.specs.Queues.{IsQueued, IsDecided}
use Rattle.machine_state.specs.Rows.{HasStatus}
use Rattle.twe_machine.proofs.listing.Entries.{decided_taken, task_taken}
use Rattle.twe_machine.proofs.queue.Queue.drop_over.Goals as goal

pub dropping-preserved : goal.dropping-preserved
dropping-preserved c =
    let st = c.args.st.now in
    let entries = c.dropping.self.entries in
    let last = c.len-last.result - 1 in
    let is : last ≡ length entries - 1 = omega (arith, c.len-last.ensures) in
    record {
      kept = λ s has h.
          subst (λ (es : List Queued). IsQueued es s) (sym c.truncate.ensures)
          (task_taken entries last s (c.ends_over.ensures.some c.dropping-test.true) is
          (λ e at own. c.ends_over.ensures.over c.dropping-test.true e (subst (λ (n : ℕ). slice_get entries n ≡ Some e) is at) (subst (λ (u : ℕ). HasStatus st u Enabled) (sym own) has))
          (c.dropping.invariant.kept s has h));
      decided = λ h. subst (IsDecided st.links) (sym c.truncate.ensures) (decided_taken st.links entries last (c.dropping.invariant.decided h));
    }
