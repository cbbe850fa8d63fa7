-- Admissions: the rows after one, and who yields to a task that was made.
use Rattle.std.proofs.Common.{◌≡◌, ◌≢◌, ◌⊎◌, ℕ, List, length, None, Some, inl, inr, refl, sym, ap, ◌∙◌, subst, length-set}
use Rattle.std.specs.Prelude.{slice_get, slice_set}
use Rattle.twe_base.specs.Limits.{Bounds}
use Rattle.effect_sets.specs.declared.effects.Effect.{Effect}
use Rattle.effect_sets.specs.Interference.{SomeInterfere}
use Rattle.wait_graph.specs.declared.tasks.Link.{Link}
use Rattle.wait_graph.specs.Chain.{none}
use Rattle.wait_graph.specs.Waiting.{SpawnedBy, WaitsOn, YieldsTo}
use Rattle.wait_graph.proofs.WaitingLemmas.{YieldsTo-rootless}
use Rattle.twe_program.specs.Program.{Program}
use Rattle.twe_program.specs.WellFormed.{IsWellFormed}
use Rattle.isolation_laws.proofs.admission.Statuses.{reached_made}
use Rattle.isolation_laws.proofs.effects.Interference.{some-mutual}
use Rattle.machine_state.specs.declared.state.State.{State}
use Rattle.machine_state.specs.declared.state.TaskRow.{TaskRow}
use Rattle.machine_state.specs.declared.state.TaskStatus.TheVariants.{Enabled, Made}
use Rattle.machine_state.specs.Legal.{Interfere, MayAdmit}
use Rattle.machine_state.specs.Moves.{admitted, admitted_row}
use Rattle.machine_state.specs.Rows.{HasStatus, IsRow}
use Rattle.machine_state.specs.Runs.{IsReached}
use Rattle.machine_state.proofs.lists.Places.{got_one, set_cases, set_other, set_same}

-- the state after an admission
abbrev pub after_admission : State → ℕ → State
after_admission st t = admitted st t (slice_get st.tasks t)

-- Interference goes by the effects of the rows.

pub interfere_rows : (st : State) (s t : ℕ) (a b : TaskRow) → IsRow st s a → IsRow st t b → Interfere st s t → SomeInterfere a.effects.effects b.effects.effects
interfere_rows st s t a b is_a is_b (x, y, is_x, is_y, meet) =
    let one : x ≡ a = got_one (slice_get st.tasks s) is_x is_a in
    let two : y ≡ b = got_one (slice_get st.tasks t) is_y is_b in
    subst (λ (r : TaskRow). SomeInterfere r.effects.effects b.effects.effects) one (subst (λ (r : TaskRow). SomeInterfere x.effects.effects r.effects.effects) two meet)

pub rows_interfere : (st : State) (s t : ℕ) (a b : TaskRow) → IsRow st s a → IsRow st t b → (es fs : List Effect) → a.effects.effects ≡ es → b.effects.effects ≡ fs
    → SomeInterfere es fs → Interfere st s t
rows_interfere st s t a b is_a is_b es fs one two meet =
    (a, b, is_a, is_b, subst (λ (l : List Effect). SomeInterfere l b.effects.effects) (sym one) (subst (λ (l : List Effect). SomeInterfere es l) (sym two) meet))

pub interferes_back : (st : State) (s t : ℕ) → Interfere st s t → Interfere st t s
interferes_back st s t (a, b, is_a, is_b, meet) = (b, a, is_b, is_a, some-mutual a.effects.effects b.effects.effects meet)

-- Who yields to a task that was made waits for it, directly or through others.

module _ (p : Program) (wf : IsWellFormed p) (lim : Bounds) (st : State) (reached : IsReached p lim st) (t : ℕ) (made : HasStatus st t Made) where
  pub rootless : (q : ℕ) → ¬ SpawnedBy st.links t q
  rootless q by =
      let alone = reached_made p wf lim st reached t made.0 made.1 made.2 in
      let both : None ≡ Some q = sym alone.linked_parent ∙ by.parent in
      cc (both)

  pub yields_waits : (s : ℕ) → YieldsTo st.links s t → WaitsOn st.links s t
  yields_waits s yields = YieldsTo-rootless rootless yields

pub waits_yields : (links : List Link) (s t : ℕ) → WaitsOn links s t → YieldsTo links s t
waits_yields links s t chain = (t, chain, none)

-- The rows after an admission.

module _ (st : State) (t : ℕ) (row : TaskRow) (here : IsRow st t row) where
  after_is : after_admission st t ≡ record st { tasks = slice_set st.tasks t (admitted_row row) }
  after_is = ap (admitted st t) here

  tasks_are : (after_admission st t).tasks ≡ slice_set st.tasks t (admitted_row row)
  tasks_are = ap (λ (s : State). s.tasks) after_is

  pub admitted_itself : IsRow (after_admission st t) t (admitted_row row)
  admitted_itself = ap (λ (rows : List TaskRow). slice_get rows t) tasks_are ∙ set_same st.tasks t row (admitted_row row) here

  pub admitted_other : (u : ℕ) (r : TaskRow) → u ≢ t → IsRow st u r → IsRow (after_admission st t) u r
  admitted_other u r differ at = ap (λ (rows : List TaskRow). slice_get rows u) tasks_are ∙ (set_other st.tasks t u (admitted_row row) differ ∙ at)

  pub admitted_was : (u : ℕ) (r : TaskRow) → IsRow (after_admission st t) u r → ((u ≡ t) × (admitted_row row ≡ r)) ⊎ ((u ≢ t) × IsRow st u r)
  admitted_was u r at = set_cases st.tasks t u (admitted_row row) r (sym (ap (λ (rows : List TaskRow). slice_get rows u) tasks_are) ∙ at)

  pub admitted_count : length (after_admission st t).tasks ≡ length st.tasks
  admitted_count = ap (λ (rows : List TaskRow). length rows) tasks_are ∙ length-set st.tasks t (admitted_row row)

  pub admitted_links : (after_admission st t).links ≡ st.links
  admitted_links = ap (λ (s : State). s.links) after_is

  pub admitted_cells : (after_admission st t).cells ≡ st.cells
  admitted_cells = ap (λ (s : State). s.cells) after_is

  pub admitted_prints : (after_admission st t).prints ≡ st.prints
  admitted_prints = ap (λ (s : State). s.prints) after_is

  pub admitted_asked : (after_admission st t).asked ≡ st.asked
  admitted_asked = ap (λ (s : State). s.asked) after_is

  pub admitted_fault : (after_admission st t).first_fault ≡ st.first_fault
  admitted_fault = ap (λ (s : State). s.first_fault) after_is

  -- what interferes after it did so before
  pub admitted_interfere : (s u : ℕ) → Interfere (after_admission st t) s u → Interfere st s u
  admitted_interfere s u (a, b, is_a, is_b, meet) =
      let one = row_before s a is_a in
      let two = row_before u b is_b in
      rows_interfere st s u one.0 two.0 one.1 two.1 a.effects.effects b.effects.effects one.2 two.2 meet
    where
      row_before : (v : ℕ) (r : TaskRow) → IsRow (after_admission st t) v r → (old : TaskRow) × IsRow st v old × (old.effects.effects ≡ r.effects.effects)
      row_before v r at = elim (admitted_was v r at) [
        | inl own ↦ (row, subst (λ (n : ℕ). IsRow st n row) (sym own.0) here, ap (λ (x : TaskRow). x.effects.effects) own.1)
        | inr other ↦ (r, other.1, refl)
      ]

  -- who is enabled after it is the task itself, or was enabled before
  pub admitted_enabled : (u : ℕ) → HasStatus (after_admission st t) u Enabled → (u ≡ t) ⊎ HasStatus st u Enabled
  admitted_enabled u enabled = elim (admitted_was u enabled.0 enabled.1) [
    | inl own ↦ inl own.0
    | inr other ↦ inr (enabled.0, other.1, enabled.2)
  ]

-- A task that may be admitted may be so after the admission of another one with which it does not interfere.
pub admits_still : (st : State) (s t : ℕ) → s ≢ t → ¬ Interfere st s t → HasStatus st s Made → MayAdmit st t → MayAdmit (after_admission st s) t
admits_still st s t differ apart made may =
    ((may.0.0, admitted_other st s made.0 made.1 t may.0.0 (λ e. differ (sym e)) may.0.1, may.0.2), held_by_none)
  where
    held_by_none : (u : ℕ) → u ≢ t → HasStatus (after_admission st s) u Enabled → Interfere (after_admission st s) u t → YieldsTo (after_admission st s).links u t
    held_by_none u other enabled meets = elim (admitted_enabled st s made.0 made.1 u enabled) [
      | inl same ↦ absurd (apart (subst (λ (n : ℕ). Interfere st n t) same (admitted_interfere st s made.0 made.1 u t meets)))
      | inr before ↦
          subst (λ (links : List Link). YieldsTo links u t) (sym (admitted_links st s made.0 made.1))
          (may.1 u other before (admitted_interfere st s made.0 made.1 u t meets))
    ]
