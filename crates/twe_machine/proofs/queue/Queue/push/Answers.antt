-- The new entry comes last, and names what it may.
use Rattle.std.proofs.Common.{ℕ, List, Option, sym, subst}
use Rattle.std.specs.Prelude.{IfSome}
use Rattle.twe_machine.specs.declared.queue.Queued.{Queued}
use Rattle.twe_machine.specs.Queues.{IsQueued, IsDecided, MayName}
use Rattle.twe_machine.proofs.listing.Entries.{decided_put, task_before, task_put}
use Rattle.twe_machine.proofs.queue.Queue.push.Goals as goal

pub sift-requires : goal.sift-requires
sift-requires c = c.drop_over.ensures.decided c.requires

pub returns-clause-added : goal.returns-clause-added
returns-clause-added c =
    subst (λ (es : List Queued). IsQueued es c.args.t) (sym c.in_ok-push.ensures.ok)
    (task_put c.settle_last.new.self.entries (record { task = c.args.t; decider = c.decider_of-decider.result }))

pub returns-clause-kept : goal.returns-clause-kept
returns-clause-kept c = λ s has h.
    subst (λ (es : List Queued). IsQueued es s) (sym c.in_ok-push.ensures.ok)
    (task_before c.settle_last.new.self.entries (record { task = c.args.t; decider = c.decider_of-decider.result }) s
    (c.in_ok-settle_last.ensures.kept s
    (subst (λ (es : List Queued). IsQueued es s) (sym c.next_walk-most.ensures) (c.in_ok-sift.ensures.kept s has (c.drop_over.ensures.kept s has h)))))

pub returns-clause-decided : goal.returns-clause-decided
returns-clause-decided c =
    let links = c.args.st.now.links in
    let entries = c.settle_last.new.self.entries in
    subst (IsDecided links) (sym c.in_ok-push.ensures.ok)
    (decided_put links entries (record { task = c.args.t; decider = c.decider_of-decider.result }) c.in_ok-settle_last.ensures.decided
    (λ d names. subst (λ (o : Option ℕ). IfSome o (MayName links entries c.args.t)) names c.decider_of-decider.ensures))
