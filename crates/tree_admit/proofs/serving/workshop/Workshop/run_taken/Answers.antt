use Rattle.std.proofs.Common.{ap, sym, subst, ◌∙◌}
use Rattle.floor_laws.specs.declared.rule.view.TaskSlot.{TaskSlot}
use Rattle.task_floor.specs.Holding.{HoldsReadyBeside}
use Rattle.floor_laws.specs.table.Tells.{Seat}
use Rattle.task_floor.specs.steps.Committing.{Log}
use Rattle.tree_admit.proofs.serving.Serving.{holds_ran, ran_same, run_since, same_stands, same_trees_twice}
use Rattle.tree_admit.proofs.serving.workshop.Workshop.run_taken.Goals as goal

pub leave_ran-requires-clause-ran : goal.leave_ran-requires-clause-ran
leave_ran-requires-clause-ran g c =
    let h = c.args.holding in
    let holds = c.requires.holds in
    let slot = c.deref_mut.result.now in
    let ready = subst (λ (s : TaskSlot). HoldsReadyBeside h.number h.stand.me h.log h.task s holds.0) (sym (c.deref_mut.ensures.value ∙ c.slot.view_is)) holds.1 in
    let has = c.in_ok-stand.ensures.ran h.task holds.0 ready.may in
    (holds.0, holds_ran g.N.Named.prog g.N.Named.lim h.number h.stand.me c.in_ok-stand.stand.me h.log _ h.task slot holds.0 c.run.new.frame c.in_ok-stand.stop ready (ap (λ (l : Log). l.entries) c.in_ok-reserve.ensures.ok) c.requires.task has c.in_ok-stand.ensures.stays c.in_ok-stand.ensures.room)

pub returns-clause-ran : goal.returns-clause-ran
returns-clause-ran g c =
    let h = c.args.holding in
    let holds = c.requires.holds in
    let slot = c.deref_mut.result.now in
    let ready = subst (λ (s : TaskSlot). HoldsReadyBeside h.number h.stand.me h.log h.task s holds.0) (sym (c.deref_mut.ensures.value ∙ c.slot.view_is)) holds.1 in
    let has = c.in_ok-stand.ensures.ran h.task holds.0 ready.may in
    run_since h.stand.me c.in_ok-stand.stand.me c.in_ok-worker.worker.me h.task c.in_ok-worker.end (ap (λ (m : Seat). m.0.part) has.kept) c.in_ok-worker.ensures.ran

pub returns-clause-same : goal.returns-clause-same
returns-clause-same g c =
    let h = c.args.holding in
    let holds = c.requires.holds in
    let ran = c.in_ok-stand.stand in
    let slot = c.deref_mut.result.now in
    let ready = subst (λ (s : TaskSlot). HoldsReadyBeside h.number h.stand.me h.log h.task s holds.0) (sym (c.deref_mut.ensures.value ∙ c.slot.view_is)) holds.1 in
    let has = c.in_ok-stand.ensures.ran h.task holds.0 ready.may in
    same_trees_twice h.stand ran c.in_ok-worker.worker (same_stands h.stand ran c.in_ok-stand.ensures.same.0 c.in_ok-stand.ensures.same.1 (ran_same g.N.Named.prog h.stand.me ran.me h.task holds.0 c.run.new.frame c.in_ok-stand.stop has)) c.in_ok-worker.ensures.same
