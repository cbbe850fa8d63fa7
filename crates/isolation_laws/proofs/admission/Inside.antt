-- The effects of an unjoined child lie inside those of its parent by the test on paths, since no effect of a task has a
-- variable.
use Rattle.std.proofs.Common.{◌≡◌, IsTrue, Some, sym, ap, ◌∙◌}
use Rattle.region_paths.specs.Filled.{filled}
use Rattle.region_paths.proofs.Outside.{within-inside}
use Rattle.effect_sets.specs.declared.effects.Effect.{Effect}
use Rattle.effect_sets.specs.Covers.{EffectWithin}
use Rattle.twe_base.specs.Limits.{Bounds}
use Rattle.twe_program.specs.Program.{Program}
use Rattle.twe_program.specs.WellFormed.{IsWellFormed}
use Rattle.effect_check.proofs.Members.{contains-in, list_all-in}
use Rattle.isolation_laws.specs.soundness.KeepsEffects.{KeepsEffects}
use Rattle.machine_state.specs.declared.state.State.{State}
use Rattle.machine_state.specs.declared.state.TaskRow.{TaskRow}
use Rattle.machine_state.specs.Runs.{IsReached}
use Rattle.machine_state.proofs.tasks.Filled.{reached_filled}
use Rattle.machine_state.proofs.standing.ReachedStands.{reached_stands}
use Rattle.isolation_laws.specs.Admission.{ChildrenInside, EffectInside}
use Rattle.isolation_laws.proofs.effects.Interference.{any-in, in-any}
use Rattle.isolation_laws.proofs.journals.Journals.{reached_within}
use Rattle.isolation_laws.proofs.rows.LinksOfRows.{spawned_row}
use Rattle.isolation_laws.proofs.rows.ListElements.{one_there}

-- an effect without variables that is within another lies inside it
inside_from_within : (d e : Effect) → IsTrue (filled e.path) → EffectWithin d e → EffectInside d e
inside_from_within d e no_variable within = (within.0, within-inside e.path d.path no_variable within.1)

pub children_inside : (p : Program) → IsWellFormed p → KeepsEffects p → (lim : Bounds) (st : State) → IsReached p lim st → ChildrenInside st
children_inside p wf keeps lim st reached c t child parent is_c is_t by e here =
    let found = spawned_row st (reached_stands p lim st wf reached).links c t by in
    let same : found.0 ≡ child = one_there st.tasks c found.0 child found.1 is_c in
    let of : child.parent ≡ Some t = sym (ap (λ (r : TaskRow). r.parent) same) ∙ found.2 in
    let outer = any-in (λ (d : Effect). EffectWithin d e) parent.effects.effects (reached_within p wf keeps lim st reached c t child parent is_c is_t of e here) in
    let no_variable : IsTrue (filled e.path) =
    list_all-in (λ (x : Effect). filled x.path) child.effects.effects (reached_filled p lim st wf reached c child is_c) e (contains-in child.effects.effects e here) in
    in-any (λ (d : Effect). EffectInside d e) parent.effects.effects outer.0 outer.1 (inside_from_within outer.0 e no_variable outer.2)
