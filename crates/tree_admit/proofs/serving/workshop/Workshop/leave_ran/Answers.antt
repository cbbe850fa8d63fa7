use Rattle.std.proofs.Common.{refl, sym, subst, ◌∙◌}
use Rattle.floor_laws.specs.declared.rule.view.TaskSlot.{TaskSlot}
use Rattle.task_floor.specs.Committing.{HasCommittedBeside, MayCommitBeside}
use Rattle.tree_admit.proofs.serving.Serving.{committed_same, holds_made, run_one, same_stands, same_trees_twice, status_then, turn_then}
use Rattle.tree_admit.proofs.serving.workshop.Workshop.leave_ran.Goals as goal

pub place_child-requires-clause-holds : goal.place_child-requires-clause-holds
place_child-requires-clause-holds g c =
    let p = g.N.Named.prog in
    let lim = g.N.Named.lim in
    let h = c.args.holding in
    let ran = c.requires.ran in
    let now = c.commit-end.new in
    let is = c.commit-end.result in
    let slot_is = c.deref_mut.ensures.value ∙ c.slot.view_is in
    let may = subst (λ (s : TaskSlot). MayCommitBeside p h.stand.me h.task s c.args.stop ran.0) (sym slot_is) ran.1.may in
    let drew = subst (λ (s : TaskSlot). HasCommittedBeside lim h.stand.me h.task ran.0 s.frame c.args.stop is.number is.end is.child now.slot now.stand.me h.log now.log) slot_is (c.commit-end.ensures.committed ran.0 may) in
    (turn_then p lim h.number h.stand.me now.stand.me h.log now.log h.task h.slot ran.0 c.args.stop is.number is.end is.child now.slot ran.1 drew, holds_made p lim h.number h.stand.me now.stand.me h.log now.log h.task h.slot ran.0 c.args.stop is.number is.end is.child now.slot ran.1 drew is.child refl)

pub leave_after-requires-clause-holds : goal.leave_after-requires-clause-holds
leave_after-requires-clause-holds g c =
    let p = g.N.Named.prog in
    let lim = g.N.Named.lim in
    let h = c.args.holding in
    let ran = c.requires.ran in
    let now = c.commit-end.new in
    let is = c.commit-end.result in
    let slot_is = c.deref_mut.ensures.value ∙ c.slot.view_is in
    let may = subst (λ (s : TaskSlot). MayCommitBeside p h.stand.me h.task s c.args.stop ran.0) (sym slot_is) ran.1.may in
    let drew = subst (λ (s : TaskSlot). HasCommittedBeside lim h.stand.me h.task ran.0 s.frame c.args.stop is.number is.end is.child now.slot now.stand.me h.log now.log) slot_is (c.commit-end.ensures.committed ran.0 may) in
    let turn = turn_then p lim h.number h.stand.me now.stand.me h.log now.log h.task h.slot ran.0 c.args.stop is.number is.end is.child now.slot ran.1 drew in
    let made = holds_made p lim h.number h.stand.me now.stand.me h.log now.log h.task h.slot ran.0 c.args.stop is.number is.end is.child now.slot ran.1 drew is.child refl in
    (turn, c.in_ok-placed.ensures.drawn turn made, status_then p lim h.number h.stand.me now.stand.me h.log now.log h.task h.slot ran.0 c.args.stop is.number is.end is.child now.slot ran.1 drew c.an_end_says_the_status.ensures)

pub returns-clause-ran : goal.returns-clause-ran
returns-clause-ran g c =
    let p = g.N.Named.prog in
    let lim = g.N.Named.lim in
    let h = c.args.holding in
    let ran = c.requires.ran in
    let now = c.commit-end.new in
    let is = c.commit-end.result in
    let slot_is = c.deref_mut.ensures.value ∙ c.slot.view_is in
    let may = subst (λ (s : TaskSlot). MayCommitBeside p h.stand.me h.task s c.args.stop ran.0) (sym slot_is) ran.1.may in
    let drew = subst (λ (s : TaskSlot). HasCommittedBeside lim h.stand.me h.task ran.0 s.frame c.args.stop is.number is.end is.child now.slot now.stand.me h.log now.log) slot_is (c.commit-end.ensures.committed ran.0 may) in
    run_one p lim h.number h.stand.me now.stand.me h.log now.log h.task h.slot ran.0 c.args.stop is.number is.end is.child now.slot ran.1 drew c.in_ok-leave_after.field-0.me
    (c.in_ok-leave_after.ensures.part ∙ c.in_ok-placed.ensures.part)

pub returns-clause-same : goal.returns-clause-same
returns-clause-same g c =
    let p = g.N.Named.prog in
    let lim = g.N.Named.lim in
    let h = c.args.holding in
    let ran = c.requires.ran in
    let now = c.commit-end.new in
    let is = c.commit-end.result in
    let slot_is = c.deref_mut.ensures.value ∙ c.slot.view_is in
    let may = subst (λ (s : TaskSlot). MayCommitBeside p h.stand.me h.task s c.args.stop ran.0) (sym slot_is) ran.1.may in
    let drew = subst (λ (s : TaskSlot). HasCommittedBeside lim h.stand.me h.task ran.0 s.frame c.args.stop is.number is.end is.child now.slot now.stand.me h.log now.log) slot_is (c.commit-end.ensures.committed ran.0 may) in
    let first = same_stands h.stand now.stand c.commit-end.ensures.same.0 c.commit-end.ensures.same.1 (committed_same p lim h.number h.stand.me now.stand.me h.log now.log h.task h.slot ran.0 c.args.stop is.number is.end is.child now.slot ran.1 drew) in
    same_trees_twice h.stand now.stand c.in_ok-leave_after.field-0 first (same_trees_twice now.stand c.in_ok-placed.placed.stand c.in_ok-leave_after.field-0 c.in_ok-placed.ensures.same c.in_ok-leave_after.ensures.same)
