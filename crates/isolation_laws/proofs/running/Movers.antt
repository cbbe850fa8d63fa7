-- No accesses of two tasks that may run conflict. If one of them descends from the other, this one's accesses spare the
-- effects of the child that it descends from; else the effects of the two do not interfere.
use Rattle.std.proofs.Common.{◌≡◌, ◌≢◌, ◌||◌, ℕ, ℤ, Bool, true, false, List, inl, inr, refl, sym, subst}
use Rattle.twe_base.specs.Limits.{Bounds}
use Rattle.effect_sets.specs.declared.effects.Effect.{Effect}
use Rattle.effect_sets.specs.Access.{PathAccess as PathAccess, AccessInterferes, Conflict, CoversAccess}
use Rattle.effect_sets.specs.Covers.{EffectWithin}
use Rattle.effect_sets.specs.Interference.{SomeInterfere}
use Rattle.effect_sets.proofs.Accesses.{access-conflicts, lists-apart, within-covers}
use Rattle.twe_program.specs.Program.{Program}
use Rattle.twe_program.specs.WellFormed.{IsWellFormed}
use Rattle.seg_meaning.specs.Access.{Access}
use Rattle.effect_check.proofs.Members.{in-contains}
use Rattle.isolation_laws.specs.soundness.DeclaredNow.{access_of}
use Rattle.isolation_laws.specs.soundness.KeepsEffects.{KeepsEffects}
use Rattle.wait_graph.specs.Waiting.{DescendsFrom, IsDone}
use Rattle.wait_graph.proofs.ChainLemmas.{Chain-arrives}
use Rattle.wait_graph.proofs.WaitingLemmas.{YieldsTo-alone}
use Rattle.machine_state.specs.declared.state.State.{State}
use Rattle.machine_state.specs.declared.state.TaskRow.{TaskRow}
use Rattle.machine_state.specs.Legal.{MayRun}
use Rattle.machine_state.specs.Rows.{IsRow}
use Rattle.machine_state.specs.Runs.{IsReached}
use Rattle.machine_state.proofs.standing.ReachedStands.{reached_stands}
use Rattle.machine_state.proofs.standing.Standing.{Stands}
use Rattle.isolation_laws.specs.Conflicts.{Makes, MoversApart}
use Rattle.isolation_laws.proofs.running.Covered.{declared, spared}
use Rattle.isolation_laws.proofs.rows.Descents.{last_step, within_along}
use Rattle.isolation_laws.proofs.effects.Interference.{any-in, in-any}
use Rattle.isolation_laws.proofs.journals.Journals.{reached_kept}
use Rattle.isolation_laws.proofs.journals.Invariant.{Kept, done_childless}
use Rattle.isolation_laws.proofs.rows.LinksOfRows.{enabled_undone, spawned_row}

-- conflicts are mutual
or_back : (a b : Bool) → (a || b) ≡ true → (b || a) ≡ true
or_back true true h = refl
or_back true false h = refl
or_back false true h = refl
or_back false false h = h

mutual_conflict : (x y : PathAccess) → Conflict x y → Conflict y x
mutual_conflict x y conflict = (or_back x.write y.write conflict.0, sym conflict.1)

module _ (p : Program) (wf : IsWellFormed p) (keeps : KeepsEffects p) (lim : Bounds) (st : State) (stands : Stands p lim st) (kept : Kept p st) where
  -- a task that may run and one that descends from it
  descendant : (s t : ℕ) (a b : TaskRow) → s ≢ t → IsRow st s a → IsRow st t b → MayRun st s → MayRun st t → DescendsFrom st.links s t
      → (cells other : List ℤ) (x y : Access) → Makes p st a cells x → Makes p st b other y → ¬ Conflict (access_of p y) (access_of p x)
  descendant s t a b differ is_a is_b may_s may_t chain cells other x y makes_x makes_y conflict =
      let last = last_step chain differ in
      let child = spawned_row st stands.links last.0 t last.2 in
      let undone : ¬ IsDone st.links last.0 = λ done.
      enabled_undone st stands.links s may_s.0 (subst (IsDone st.links) (sym (Chain-arrives (λ c. done_childless p lim st stands last.0 c done) last.1)) done) in
      let inner = any-in (λ (e : Effect). CoversAccess e (access_of p x)) a.effects.effects (declared p wf keeps lim st stands kept s a is_a cells x makes_x) in
      let within = within_along st stands.links kept.within s last.0 a child.0 is_a child.1 last.1 in
      let outer = any-in (λ (d : Effect). EffectWithin d inner.0) (child.0).effects.effects (within inner.0 (in-contains a.effects.effects inner.0 inner.1)) in
      let covers = within-covers outer.0 inner.0 outer.2 (access_of p x) inner.2 in
      spared p wf keeps lim st stands kept t last.0 b child.0 is_b child.1 may_t last.2 (λ joins. undone joins.1) other y makes_y
      (in-any (λ (e : Effect). AccessInterferes (access_of p y) e) (child.0).effects.effects outer.0 outer.1 ((access-conflicts (access_of p y) outer.0).1 (access_of p x, covers, conflict)))

  movers : MoversApart p st
  movers s t a b differ is_a is_b may_s may_t cells other x y makes_x makes_y conflict =
      let free : ¬ SomeInterfere a.effects.effects b.effects.effects = λ some.
      elim (kept.isolated s t differ may_s.0 may_t.0 (a, b, is_a, is_b, some)) [
        | inl yields ↦ descendant t s b a (λ e. differ (sym e)) is_b is_a may_t may_s (YieldsTo-alone may_s.1 yields) other cells y x makes_y makes_x conflict
        | inr yields ↦ descendant s t a b differ is_a is_b may_s may_t (YieldsTo-alone may_t.1 yields) cells other x y makes_x makes_y (mutual_conflict (access_of p x) (access_of p y) conflict)
      ] in
      lists-apart a.effects.effects b.effects.effects free (access_of p x) (access_of p y) (declared p wf keeps lim st stands kept s a is_a cells x makes_x) (declared p wf keeps lim st stands kept t b is_b other y makes_y) conflict

pub movers_apart : (p : Program) → IsWellFormed p → KeepsEffects p → (lim : Bounds) (st : State) → IsReached p lim st → MoversApart p st
movers_apart p wf keeps lim st reached = movers p wf keeps lim st (reached_stands p lim st wf reached) (reached_kept p wf keeps lim st reached)
