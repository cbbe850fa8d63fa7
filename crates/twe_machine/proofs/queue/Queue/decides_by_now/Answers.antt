use Rattle.std.proofs.Common.{◌≡◌, List, Some, subst, arith}
use Rattle.std.specs.Prelude.{slice_get}
use Rattle.twe_machine.specs.declared.queue.Queued.{Queued}
use Rattle.twe_machine.specs.Queues.{FirstKeepWaiting}
use Rattle.twe_machine.proofs.listing.Leading.{led_leads}
use Rattle.machine_state.proofs.lists.Places.{got_one}
use Rattle.twe_machine.proofs.queue.Queue.decides_by_now.Goals as goal

-- who waits for the task leads to it
pub returns : goal.returns
returns c = λ yes f at i e low here.
    let one : c.entry_at-entry.result ≡ f =
    got_one (slice_get c.args.self.now.entries c.args.at) (subst (λ (es : List Queued). slice_get es c.args.at ≡ Some c.entry_at-entry.result) c.as_slice.ensures c.entry_at-entry.ensures) at in
    subst (λ (g : Queued). FirstKeepWaiting c.args.st.now.links c.args.self.now.entries c.args.at g.task) one
    (λ j g less there. led_leads c.args.st.now.links g.task c.entry_at-entry.result.task (c.first_all_wait.ensures yes j g (omega arith) less there)) i e low here
