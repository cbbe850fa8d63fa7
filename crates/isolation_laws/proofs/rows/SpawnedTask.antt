-- A state stays isolated when a task is spawned: each task that interferes with the new one interferes with its parent
-- too.
use Rattle.std.proofs.Common.{◌≡◌, ◌≢◌, ◌⊎◌, ℕ, false, Some, inl, inr, length, sym, ap, ◌∙◌, subst, arith}
use Rattle.std.proofs.lemmas.Bool.{cases_eq}
use Rattle.effect_sets.specs.Interference.{SomeInterfere}
use Rattle.wait_graph.specs.Chain.{none, more}
use Rattle.wait_graph.specs.Waiting.{DescendsFrom, SpawnedBy, WaitsForNobody, WaitsOn, YieldsTo}
use Rattle.wait_graph.proofs.AddingLemmas.{SpawnedBy-added, WaitsOn-added}
use Rattle.wait_graph.proofs.WaitingLemmas.{YieldsTo-alone}
use Rattle.machine_state.specs.declared.state.State.{State}
use Rattle.machine_state.specs.declared.state.TaskRow.{TaskRow}
use Rattle.machine_state.specs.declared.state.TaskStatus.TheVariants.{Enabled}
use Rattle.machine_state.specs.Legal.{Isolated}
use Rattle.machine_state.specs.Rows.{HasStatus, IsRow, LinksAgree}
use Rattle.isolation_laws.specs.Within.{EffectsWithin, SpawnedWithin}
use Rattle.isolation_laws.proofs.rows.AddedTask.{ParentsAreThere, before_length, descends_added, row_added, with_row, yields_added}
use Rattle.isolation_laws.proofs.rows.RowsLater.{SiblingsApart}
use Rattle.isolation_laws.proofs.rows.Descents.{last_step, within_along}
use Rattle.isolation_laws.proofs.rows.ListElements.{one_there}
use Rattle.isolation_laws.proofs.effects.Interference.{some-more, some-mutual}
use Rattle.isolation_laws.proofs.rows.LinksOfRows.{spawned_row}

-- the task t, which waits for nobody, has spawned a task. The effects of the new task lie within those of t, and
-- interfere with those of no other unjoined child of t.
module _ (st : State) (agree : LinksAgree st) (within : SpawnedWithin st) (same_length : length st.links ≡ length st.tasks)
    (t : ℕ) (maker row : TaskRow) (is_t : IsRow st t maker) (may_t : HasStatus st t Enabled) (nobody : WaitsForNobody st.links t)
    (of_t : row.parent ≡ Some t) (inside : EffectsWithin row maker)
    (apart : (d : ℕ) (b : TaskRow) → IsRow st d b → b.parent ≡ Some t → b.joined ≡ false → ¬ SomeInterfere row.effects.effects b.effects.effects) where
  -- each task that yields to the parent yields to the new task
  yields_to_new : (s : ℕ) → YieldsTo st.links s t → YieldsTo (with_row st row).links s (length st.tasks)
  yields_to_new s yields =
      let by : SpawnedBy (with_row st row).links (length st.tasks) t = (SpawnedBy-added st.links row.parent (length st.tasks) t).1 (inr (sym same_length, of_t)) in
      (yields.0, (WaitsOn-added st.links row.parent s yields.0).1 yields.1, more by (descends_added st.links row.parent t yields.0 yields.2))

  -- a task that descends from another unjoined child does not interfere with the new one
  no_cousin : (s : ℕ) (a : TaskRow) → IsRow st s a → s ≢ t → SomeInterfere a.effects.effects row.effects.effects → ¬ DescendsFrom st.links s t
  no_cousin s a is_s differ some chain =
      let last = last_step chain differ in
      let child = spawned_row st agree last.0 t last.2 in
      let lies = within_along st agree within s last.0 a child.0 is_s child.1 last.1 in
      apart last.0 child.0 child.1 child.2 child.3
      (some-more row.effects.effects a.effects.effects (child.0).effects.effects lies (some-mutual a.effects.effects row.effects.effects some))

  with_new : Isolated st → (s : ℕ) (a : TaskRow) → IsRow st s a → HasStatus st s Enabled → SomeInterfere a.effects.effects row.effects.effects
      → YieldsTo (with_row st row).links s (length st.tasks)
  with_new isolated s a is_s may_s some = elim (cases_eq s t) [
    | inl same ↦ yields_to_new s (t, subst (λ (x : ℕ). WaitsOn st.links x t) (sym same) none, none)
    | inr differ ↦ elim (isolated s t differ may_s may_t (a, maker, is_s, is_t, some-more a.effects.effects row.effects.effects maker.effects.effects inside some)) [
      | inl yields ↦ yields_to_new s yields
      | inr yields ↦ absurd (no_cousin s a is_s differ some (YieldsTo-alone nobody yields))
    ]
  ]

  -- an enabled row is the new one, or one that was enabled before
  may_before : (s : ℕ) → HasStatus (with_row st row) s Enabled → ((s ≡ length st.tasks) × IsRow (with_row st row) s row) ⊎ HasStatus st s Enabled
  may_before s may = elim (row_added st row s may.0 may.1) [
    | inl here ↦ inl (here.0, subst (λ (x : TaskRow). IsRow (with_row st row) s x) here.1 may.1)
    | inr before ↦ inr (may.0, before, may.2)
  ]

  old_row : (s : ℕ) (b : TaskRow) → HasStatus st s Enabled → IsRow (with_row st row) s b → IsRow st s b
  old_row s b may is = elim (row_added st row s b is) [
    | inl here ↦ let below = before_length st row s may.0 may.1 in absurd (omega (arith, here.0))
    | inr before ↦ before
  ]

  pub isolated_spawned : Isolated st → Isolated (with_row st row)
  isolated_spawned isolated s c differ may_s may_c i = elim (may_before s may_s) [
    | inl new ↦ elim (may_before c may_c) [
      | inl other ↦ absurd (differ (new.0 ∙ sym other.0))
      | inr old ↦
          let same = one_there (with_row st row).tasks s i.0 row i.2 new.1 in
          let some = subst (λ (x : TaskRow). SomeInterfere x.effects.effects (i.1).effects.effects) same i.4 in
          inr (subst (λ (x : ℕ). YieldsTo (with_row st row).links c x) (sym new.0)
          (with_new isolated c i.1 (old_row c i.1 old i.3) old (some-mutual row.effects.effects (i.1).effects.effects some)))
    ]
    | inr old_s ↦ elim (may_before c may_c) [
      | inl new ↦
          let same = one_there (with_row st row).tasks c i.1 row i.3 new.1 in
          let some = subst (λ (x : TaskRow). SomeInterfere (i.0).effects.effects x.effects.effects) same i.4 in
          inl (subst (λ (x : ℕ). YieldsTo (with_row st row).links s x) (sym new.0) (with_new isolated s i.0 (old_row s i.0 old_s i.2) old_s some))
      | inr old_c ↦ elim (isolated s c differ old_s old_c (i.0, i.1, old_row s i.0 old_s i.2, old_row c i.1 old_c i.3, i.4)) [
        | inl yields ↦ inl (yields_added st.links row.parent s c yields)
        | inr yields ↦ inr (yields_added st.links row.parent c s yields)
      ]
    ]
  ]

  pub within_spawned : ParentsAreThere st → SpawnedWithin (with_row st row)
  within_spawned there c q child parent is_child is_parent of = elim (row_added st row q parent is_parent) [
    | inl new_parent ↦ elim (row_added st row c child is_child) [
      | inl new ↦
          let one : Some t ≡ Some q = sym of_t ∙ (sym (ap (λ (r : TaskRow). r.parent) new.1) ∙ of) in
          let same : t ≡ q = cc in
          let below = before_length st row t maker is_t in
          absurd (omega (arith, new_parent.0))
      | inr old ↦ absurd (omega (arith, new_parent.0, there c q child old of))
    ]
    | inr old_parent ↦ elim (row_added st row c child is_child) [
      | inl new ↦
          let one : Some t ≡ Some q = sym of_t ∙ (sym (ap (λ (r : TaskRow). r.parent) new.1) ∙ of) in
          let same : t ≡ q = cc in
          let is_q : IsRow st q maker = subst (λ (x : ℕ). IsRow st x maker) same is_t in
          let first : EffectsWithin row parent = subst (λ (x : TaskRow). EffectsWithin row x) (one_there st.tasks q maker parent is_q old_parent) inside in
          subst (λ (x : TaskRow). EffectsWithin x parent) (sym new.1) first
      | inr old ↦ within c q child parent old old_parent of
    ]
  ]

  -- two children of t, one of them the new one
  with_sibling : (d u : ℕ) (b : TaskRow) → IsRow st d b → b.parent ≡ Some u → b.joined ≡ false → row.parent ≡ Some u → ¬ SomeInterfere row.effects.effects b.effects.effects
  with_sibling d u b is_b parent free of =
      let one : Some t ≡ Some u = sym of_t ∙ of in
      let same : u ≡ t = cc in
      apart d b is_b (parent ∙ ap (λ (x : ℕ). Some x) same) free

  pub siblings_spawned : SiblingsApart st → SiblingsApart (with_row st row)
  siblings_spawned siblings c d u a b differ is_a is_b of_a of_b free_a free_b some = elim (row_added st row c a is_a) [
    | inl new ↦ elim (row_added st row d b is_b) [
      | inl other ↦ differ (new.0 ∙ sym other.0)
      | inr old ↦
          let of : row.parent ≡ Some u = sym (ap (λ (r : TaskRow). r.parent) new.1) ∙ of_a in
          with_sibling d u b old of_b free_b of (subst (λ (x : TaskRow). SomeInterfere x.effects.effects b.effects.effects) new.1 some)
    ]
    | inr old_a ↦ elim (row_added st row d b is_b) [
      | inl new ↦
          let of : row.parent ≡ Some u = sym (ap (λ (r : TaskRow). r.parent) new.1) ∙ of_b in
          let some_new = subst (λ (x : TaskRow). SomeInterfere a.effects.effects x.effects.effects) new.1 some in
          with_sibling c u a old_a of_a free_a of (some-mutual a.effects.effects row.effects.effects some_new)
      | inr old_b ↦ siblings c d u a b differ old_a old_b of_a of_b free_a free_b some
    ]
  ]
