use Rattle.std.proofs.Common.{◌≡◌, ℕ, Bool, true, false, List, IsFalse, IsTrue, arith, refl, sym, ap, inl, inr, ◌∙◌}
use Rattle.floor_laws.specs.admission.admission_core.States.{Record}
use Rattle.floor_laws.specs.declared.table.nodes.view.TreeView.{TreeView}
use Rattle.floor_laws.specs.table.nodes.Deciders.{AllWaitFor, MayDecide}
use Rattle.floor_laws.specs.table.nodes.Layout.{decider_at, no_decider}
use Rattle.task_floor.proofs.floor.Floor.mark_placed.Goals as goal

-- what the word says is so
may_say : (v : TreeView) (t place node : ℕ) (content : List Record) (said : ℕ) (decides : Bool) → place ≡ node → (IsTrue decides → said ≡ decider_at node)
    → (IsFalse decides → said ≡ no_decider) → (IsTrue decides → AllWaitFor v.waits t content) → MayDecide v t place content said
may_say v t place node content said true same here nowhere all = inr (here refl ∙ ap (λ (n : ℕ). decider_at n) (sym same), all refl)
may_say v t place node content said false same here nowhere all = inl (nowhere refl)

pub mark_saying-requires-clause-may : goal.mark_saying-requires-clause-may
mark_saying-requires-clause-may g c =
    let may = c.requires.may in
    let says = may_say c.args.stand.now.me.0 c.args.task may.0.place c.args.node may.1 c.decider_word.result c.args.decides may.2 c.decider_word.ensures.here c.decider_word.ensures.nowhere may.4 in
    (may.0, may.1, may.3, says, may.5)

pub mark_past-requires-clause-may : goal.mark_past-requires-clause-may
mark_past-requires-clause-may g c =
    let may = c.requires.may in
    let tasks = c.self.invariant.2 in
    let task = may.3 in
    (may.0, may.1, may.2, λ low. absurd (omega (arith, low, task, tasks, c.if-task-self.false)), may.5)

pub returns-then-task-self-clause-marked : goal.returns-then-task-self-clause-marked
returns-then-task-self-clause-marked g c a content at may = c.mark_saying.ensures.marked a content may

pub returns-else-task-self-clause-marked : goal.returns-else-task-self-clause-marked
returns-else-task-self-clause-marked g c a content at may = c.mark_past.ensures.marked a content may
