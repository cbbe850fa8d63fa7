-- While a deterministic task is enabled, each access of a task that is not below it spares its effects. If it did not, the
-- two tasks would interfere, so one would yield to the other. The other one, which runs, waits for nobody. So it would
-- yield only as an ancestor, and then its access spares the effects of its child above the task. The deterministic task
-- waits only for tasks that it spawned, so it would yield only to tasks below it.
use Rattle.std.proofs.Common.{◌≡◌, ◌≢◌, ℕ, List, [], ◌∷◌, inl, inr, refl, sym, ap, ◌∙◌, subst}
use Rattle.std.specs.Prelude.{slice_get}
use Rattle.effect_sets.specs.declared.effects.Effect.{Effect}
use Rattle.effect_sets.specs.declared.effects.Summary.{Summary}
use Rattle.effect_sets.specs.Access.{PathAccess as PathAccess, AccessInterferes, AccessInterferesWithSome, CoversAccess, SomeCoversAccess}
use Rattle.effect_sets.specs.Covers.{EffectWithin}
use Rattle.effect_sets.specs.Interference.{SomeInterfere}
use Rattle.effect_sets.proofs.Accesses.{access-conflicts, effects-conflict, within-covers}
use Rattle.effect_check.proofs.Members.{in-contains}
use Rattle.seg_journal.specs.declared.journal.Entry.{Entry}
use Rattle.twe_base.specs.Limits.{Bounds}
use Rattle.twe_program.specs.Program.{Program}
use Rattle.twe_program.specs.WellFormed.{IsWellFormed}
use Rattle.seg_meaning.specs.Access.{Access}
use Rattle.isolation_laws.specs.soundness.DeclaredNow.{access_of}
use Rattle.isolation_laws.specs.soundness.KeepsEffects.{KeepsEffects}
use Rattle.wait_graph.specs.declared.tasks.Link.{Link}
use Rattle.wait_graph.specs.Chain.{none, more}
use Rattle.wait_graph.specs.Waiting.{DescendsFrom, IsDone, WaitsOn}
use Rattle.wait_graph.proofs.ChainLemmas.{Chain-arrives}
use Rattle.wait_graph.proofs.WaitingLemmas.{YieldsTo-alone}
use Rattle.machine_state.specs.declared.state.State.{State}
use Rattle.machine_state.specs.declared.state.TaskRow.{TaskRow}
use Rattle.machine_state.specs.declared.state.TaskStatus.TheVariants.{Enabled}
use Rattle.machine_state.specs.Legal.{MayRun}
use Rattle.machine_state.specs.Rows.{HasStatus, IsRow}
use Rattle.machine_state.specs.Runs.{Legal, state_after}
use Rattle.machine_state.proofs.lists.Places.{got_one}
use Rattle.isolation_laws.proofs.effects.Interference.{AllWithin, any-in, in-any, meet-some}
use Rattle.isolation_laws.proofs.journals.Invariant.{done_childless}
use Rattle.isolation_laws.proofs.rows.Descents.{last_step, within_along}
use Rattle.isolation_laws.proofs.rows.LinksOfRows.{enabled_undone, link_there, spawned_row}
use Rattle.isolation_laws.proofs.running.Covered.{declared, spared}
use Rattle.determinism_laws.specs.Deterministic.{IsDeterministic}
use Rattle.determinism_laws.specs.ElisionOrder.{IsLeftAlone, KeepsElisionOrder, StaysWithin}
use Rattle.determinism_laws.specs.Ranks.{IsBelow}
use Rattle.determinism_laws.specs.Segments.{SegmentMakes, number_of_segment, state_before}
use Rattle.determinism_laws.proofs.Forks.{children_deterministic, same_flag, awaited_row}
use Rattle.determinism_laws.proofs.JournalPlaces.{later_end, reached_at, stands_at}
use Rattle.determinism_laws.proofs.RankOrder.{conflicts_keep_ranks}
use Rattle.determinism_laws.proofs.Spawners.{below_parent}
use Rattle.determinism_laws.proofs.Trees.{holds_at, kept_at, runner}

-- an access that interferes with an effect interferes with each that contains it
interferes_outer : (es ds : List Effect) (x : PathAccess) → AllWithin es ds → AccessInterferesWithSome x es → AccessInterferesWithSome x ds
interferes_outer es ds x within meets =
    let e = any-in (λ (e : Effect). AccessInterferes x e) es meets in
    let y = (access-conflicts x e.0).0 e.2 in
    let outer = any-in (λ (d : Effect). EffectWithin d e.0) ds (within e.0 (in-contains es e.0 e.1)) in
    in-any (λ (d : Effect). AccessInterferes x d) ds outer.0 outer.1
    ((access-conflicts x outer.0).1 (y.0, within-covers outer.0 e.0 outer.2 y.0 y.1, y.2))

-- effects that cover an access interfere with those that the access interferes with
effects_meet : (ds es : List Effect) (x : PathAccess) → SomeCoversAccess ds x → AccessInterferesWithSome x es → SomeInterfere ds es
effects_meet ds es x covered meets =
    let d = any-in (λ (d : Effect). CoversAccess d x) ds covered in
    let e = any-in (λ (e : Effect). AccessInterferes x e) es meets in
    let y = (access-conflicts x e.0).0 e.2 in
    meet-some ds es (d.0, d.1, e.0, e.1, (effects-conflict d.0 e.0).1 (x, y.0, d.2, y.1, y.2))

module _ (p : Program) (wf : IsWellFormed p) (keeps : KeepsEffects p) (lim : Bounds) (journal : List Entry) (legal : Legal p lim journal) where
  abbrev st : ℕ → State
  st n = state_before p lim journal n

  -- below an unjoined descendant is below the task
  below_along : (n i s u : ℕ) → DescendsFrom (st n).links s u → IsBelow p lim journal s i → IsBelow p lim journal u i
  below_along n i s u none below = below
  below_along n i s u (more {b = q} by chain) below =
      let found = spawned_row (st n) (stands_at p wf lim journal legal n).links s q by in
      below_along n i q u chain (below_parent p wf lim journal legal n q s i found.0 found.1 found.2 below)

  -- and so is below what a deterministic task waits for
  below_waits : (n i t u : ℕ) (row : TaskRow) → IsRow (st n) t row → IsDeterministic p row → WaitsOn (st n).links t u → IsBelow p lim journal u i → IsBelow p lim journal t i
  below_waits n i t u row is flag none below = below
  below_waits n i t u row is flag (more {b = on} wait chain) below =
      let reached = reached_at p wf lim journal legal n in
      let own = link_there (st n) (stands_at p wf lim journal legal n).links t row is in
      let child = awaited_row p wf keeps lim (st n) reached t on row is flag (sym (ap (λ (l : Link). l.waits) own) ∙ wait.waits) in
      let child_flag = children_deterministic p wf keeps lim (st n) reached on t child.0 row child.1 is child.2 flag in
      below_parent p wf lim journal legal n t on i child.0 child.1 child.2 (below_waits n i on u child.0 child.1 child_flag chain below)

  -- an ancestor of t that may run spares the effects of t
  ancestor_spares : (i s t : ℕ) (b : TaskRow) (x : Access) (makes : SegmentMakes p lim journal s i x) → t ≢ s → IsRow (st i) t b → MayRun (st i) s
      → HasStatus (st i) t Enabled → DescendsFrom (st i).links t s → ¬ AccessInterferesWithSome (access_of p x) b.effects.effects
  ancestor_spares i s t b x makes differ is_b may enabled chain meets =
      let stands = stands_at p wf lim journal legal i in
      let kept = kept_at p wf keeps lim journal legal i in
      let last = last_step chain differ in
      let child = spawned_row (st i) stands.links last.0 s last.2 in
      let undone : ¬ IsDone (st i).links last.0 = λ done.
      enabled_undone (st i) stands.links t enabled
      (subst (IsDone (st i).links) (sym (Chain-arrives (λ c. done_childless p lim (st i) stands last.0 c done) last.1)) done) in
      spared p wf keeps lim (st i) stands kept s last.0 makes.row child.0 makes.there child.1 may last.2 (λ joins. undone joins.1) (st i).cells x makes.makes
      (interferes_outer b.effects.effects child.0.effects.effects (access_of p x) (within_along (st i) stands.links kept.within t last.0 b child.0 is_b child.1 last.1) meets)

  -- so do all tasks that are not below a deterministic task
  spares_now : (i s t : ℕ) (b : TaskRow) (x : Access) → SegmentMakes p lim journal s i x → IsRow (st i) t b → IsDeterministic p b → HasStatus (st i) t Enabled
      → ¬ IsBelow p lim journal t i → ¬ AccessInterferesWithSome (access_of p x) b.effects.effects
  spares_now i s t b x makes is_b flag enabled outside meets =
      let stands = stands_at p wf lim journal legal i in
      let kept = kept_at p wf keeps lim journal legal i in
      let may = runner p wf keeps lim journal legal s i makes.segment in
      let own : IsBelow p lim journal s i = (number_of_segment journal s i ∷ [], (makes.segment, refl)) in
      let differ : s ≢ t = λ same. outside (subst (λ (n : ℕ). IsBelow p lim journal n i) same own) in
      let covered = declared p wf keeps lim (st i) stands kept s makes.row makes.there (st i).cells x makes.makes in
      let some = effects_meet makes.row.effects.effects b.effects.effects (access_of p x) covered meets in
      elim (kept.isolated s t differ may.0 enabled (makes.row, b, makes.there, is_b, some)) [
        | inl yields ↦ ancestor_spares i s t b x makes (λ e. differ (sym e)) is_b may enabled (YieldsTo-alone may.1 yields) meets
        | inr yields ↦ outside (below_waits i i t yields.0 b is_b flag yields.1 (below_along i i s yields.0 yields.2 own))
      ]

  module _ (t : ℕ) (row : TaskRow) (final : IsRow (state_after p lim journal) t row) where
    -- the task had its declaration and its effects before
    same_before : (i : ℕ) (b : TaskRow) → IsRow (st i) t b → (row.decl ≡ b.decl) × (row.effects ≡ b.effects)
    same_before i b is =
        let kept = (later_end p wf lim journal legal i).kept t b is in
        let same : row ≡ kept.now = got_one (slice_get (state_after p lim journal).tasks t) final kept.there in
        (ap (λ (r : TaskRow). r.decl) same ∙ kept.decl, ap (λ (r : TaskRow). r.effects) same ∙ kept.effects)

    pub left_alone : IsDeterministic p row → IsLeftAlone p lim journal t row
    left_alone flag i s enabled outside x makes meets =
        let b = enabled.0 in
        let same = same_before i b enabled.1 in
        spares_now i s t b x makes enabled.1 (same_flag p row b same.0 flag) enabled outside
        (subst (λ (e : Summary). AccessInterferesWithSome (access_of p x) e.effects) same.1 meets)

    pub stays_within : StaysWithin p lim journal t row
    stays_within i s below x makes =
        let holds = holds_at p wf keeps lim journal legal below.0 t i below.1 in
        let same = same_before i holds.row holds.there in
        subst (λ (e : Summary). SomeCoversAccess e.effects (access_of p x)) (sym same.1) (holds.covers s x makes)

pub keeps_elision_order : (p : Program) → IsWellFormed p → KeepsEffects p → (lim : Bounds) (journal : List Entry) → Legal p lim journal
    → (t : ℕ) (row : TaskRow) → IsRow (state_after p lim journal) t row → IsDeterministic p row → KeepsElisionOrder p lim journal t row
keeps_elision_order p wf keeps lim journal legal t row final flag = record {
  ordered = conflicts_keep_ranks p wf keeps lim journal legal t;
  within = stays_within p wf keeps lim journal legal t row final;
  alone = left_alone p wf keeps lim journal legal t row final flag;
}
