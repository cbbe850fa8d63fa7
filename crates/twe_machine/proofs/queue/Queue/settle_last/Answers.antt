-- The last entry is made one that decides.
use Rattle.std.proofs.Common.{◌≡◌, ◌-◌, ◌<◌, ◌++◌, ◌∷◌, [], ℕ, List, Some, length, sym, ap, ◌∙◌, subst, arith}
use Rattle.twe_machine.specs.declared.queue.Queued.{Queued}
use Rattle.twe_machine.specs.Queues.{FirstKeepWaiting, IsDecided, IsQueued}
use Rattle.twe_machine.proofs.listing.Entries.{decided_late, task_late}
use Rattle.machine_state.proofs.lists.Places.{below_there}
use Rattle.twe_machine.proofs.queue.Queue.settle_last.Goals as goal

pub returns-clause-kept : goal.returns-clause-kept
returns-clause-kept c = λ s h.
    let entries = c.args.self.now.entries in
    let last = c.len-count.result - 1 in
    let f : Queued = record { task = c.task_at-task.result; decider = Some last } in
    let some : 0 < length entries = omega arith in
    let is : last ≡ length entries - 1 = omega (arith, c.len-count.ensures) in
    let e = below_there entries last (omega (arith, c.len-count.ensures)) in
    subst (λ (es : List Queued). IsQueued es s) (sym (c.in_ok-push.ensures.ok ∙ ap (λ (es : List Queued). es ++ f ∷ []) c.truncate.ensures))
    (task_late entries last s e.0 f some is e.1 (sym (c.task_at-task.ensures e.0 e.1)) h)

pub returns-clause-decided : goal.returns-clause-decided
returns-clause-decided c =
    let links = c.args.st.now.links in
    let entries = c.args.self.now.entries in
    let last = c.len-count.result - 1 in
    let task = c.task_at-task.result in
    let f : Queued = record { task = task; decider = Some last } in
    let low : last < length entries = omega (arith, c.len-count.ensures) in
    let e = below_there entries last low in
    subst (IsDecided links) (sym (c.in_ok-push.ensures.ok ∙ ap (λ (es : List Queued). es ++ f ∷ []) c.truncate.ensures))
    (decided_late links entries last task low c.requires
    (subst (λ (u : ℕ). FirstKeepWaiting links entries last u) (c.task_at-task.ensures e.0 e.1) (c.decides_by_now.ensures (search) e.0 e.1)))
