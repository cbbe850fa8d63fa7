-- What interferes with the task has an effect that was entered, and it interferes with one of the task.
use Rattle.std.proofs.Common.{List, sym, subst}
use Rattle.effect_sets.specs.declared.effects.Effect.{Effect}
use Rattle.twe_machine.specs.Listings.{HasEffect}
use Rattle.twe_machine.proofs.listing.Books.{none_then}
use Rattle.twe_machine.proofs.listing.Listed.{may_by}
use Rattle.machine_state.proofs.standing.ReachedStands.{reached_stands}
use Rattle.machine_state.proofs.tasks.Filled.{reached_filled}
use Rattle.twe_machine.proofs.enabled_tasks.EnabledTasks.bar.Goals as goal

pub bar_to_all-requires-clause-agree : goal.bar_to_all-requires-clause-agree
bar_to_all-requires-clause-agree c = let r = c.requires.reachable in (reached_stands r.0 r.2.0 c.args.st.now r.1 r.2.1).links

pub bar_to_all-requires-clause-filled : goal.bar_to_all-requires-clause-filled
bar_to_all-requires-clause-filled c = let r = c.requires.reachable in reached_filled r.0 r.2.0 c.args.st.now r.1 r.2.1

pub returns-in-Some-clause-none : goal.returns-in-Some-clause-none
returns-in-Some-clause-none c =
    let st = c.args.st.now in
    let row = c.in-Some.row.now in
    none_then c.bar_to_all.result
    (λ pass. may_by st c.args.self.now c.args.t row (sym c.in-Some.ensures) c.requires.listing.all c.requires.made
    (λ s e f entered has int. pass s e f entered (subst (λ (xs : List Effect). HasEffect xs f) (sym c.as_slice.ensures) has) int))
    c.bar_to_all.ensures.none
