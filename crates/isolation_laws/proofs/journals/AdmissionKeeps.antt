-- An admission keeps the invariant: the rule of the move asks for isolation.
use Rattle.std.proofs.Common.{◌≡◌, ◌≢◌, ◌⊎◌, ℕ, ℤ, List, Some, inl, inr, refl, sym, ap, ◌∙◌, subst}
use Rattle.std.proofs.lemmas.Bool.{cases_eq}
use Rattle.twe_program.specs.Program.{Program}
use Rattle.seg_meaning.specs.declared.frame.Frame.{Frame}
use Rattle.isolation_laws.specs.soundness.RunsWith.{RunsWith}
use Rattle.wait_graph.specs.Waiting.{YieldsTo}
use Rattle.machine_state.specs.declared.state.State.{State}
use Rattle.machine_state.specs.declared.state.TaskRow.{TaskRow}
use Rattle.machine_state.specs.declared.state.TaskStatus.TheVariants.{Enabled}
use Rattle.machine_state.specs.Legal.{Interfere, Isolated, MayAdmit}
use Rattle.machine_state.specs.Moves.{admitted, admitted_row}
use Rattle.machine_state.specs.Rows.{HasStatus, IsRow}
use Rattle.isolation_laws.proofs.rows.RowsLater.{Became, Continues, became_itself, interfere_before, siblings_later, within_later}
use Rattle.isolation_laws.proofs.frames.Frames.{OnPath}
use Rattle.isolation_laws.proofs.rows.ListElements.{get_set}
use Rattle.isolation_laws.proofs.journals.PutBackKeeps.{on_path_later}
use Rattle.isolation_laws.proofs.effects.Interference.{some-mutual}
use Rattle.isolation_laws.proofs.journals.Invariant.{Kept}

admitted_became : (row : TaskRow) → Became row (admitted_row row)
admitted_became row = record { decl = refl; args = refl; effects = refl; parent = refl; unjoined = λ h. h }

mutual_tasks : (st : State) (s t : ℕ) → Interfere st s t → Interfere st t s
mutual_tasks st s t i = (i.1, i.0, i.3, i.2, some-mutual (i.0).effects.effects (i.1).effects.effects i.4)

module _ (p : Program) (st : State) (kept : Kept p st) (t : ℕ) (row : TaskRow) (is_t : IsRow st t row) (may : MayAdmit st t) where
  abbrev new : State
  new = admitted st t (Some row)

  -- a row of the new state is that of t, or was there before
  row_of : (s : ℕ) (b : TaskRow) → IsRow new s b → ((s ≡ t) × (b ≡ admitted_row row)) ⊎ ((s ≢ t) × IsRow st s b)
  row_of s b is = get_set st.tasks t s (admitted_row row) b is

  continues : Continues st new
  continues s b is = elim (row_of s b is) [
    | inl here ↦ (row, subst (λ (x : ℕ). IsRow st x row) (sym here.0) is_t, subst (Became row) (sym here.1) (admitted_became row))
    | inr other ↦ (b, other.1, became_itself b)
  ]

  -- each other enabled task was enabled before
  other_enabled : (s : ℕ) → s ≢ t → HasStatus new s Enabled → HasStatus st s Enabled
  other_enabled s differ may_s = elim (row_of s may_s.0 may_s.1) [
    | inl here ↦ absurd (differ here.0)
    | inr other ↦ (may_s.0, other.1, may_s.2)
  ]

  -- the new state is isolated, since each other enabled task that interferes with t yields to it
  isolated_new : Isolated new
  isolated_new s u differ may_s may_u i =
      let before = interfere_before st new continues s u i in
      elim (cases_eq u t) [
        | inl is_u ↦
            let s_differs : s ≢ t = λ e. differ (e ∙ sym is_u) in
            let with_t = subst (λ (x : ℕ). Interfere st s x) is_u before in
            inl (subst (λ (x : ℕ). YieldsTo st.links s x) (sym is_u) (may.1 s s_differs (other_enabled s s_differs may_s) with_t))
        | inr u_differs ↦ elim (cases_eq s t) [
          | inl is_s ↦
              let with_t = subst (λ (x : ℕ). Interfere st u x) is_s (mutual_tasks st s u before) in
              inr (subst (λ (x : ℕ). YieldsTo st.links u x) (sym is_s) (may.1 u u_differs (other_enabled u u_differs may_u) with_t))
          | inr s_differs ↦ kept.isolated s u differ (other_enabled s s_differs may_s) (other_enabled u u_differs may_u) before
        ]
      ]

  frame_before : (s : ℕ) (b : TaskRow) → IsRow new s b → (a : TaskRow) × IsRow st s a × (b.frame ≡ a.frame) × (b.args ≡ a.args)
  frame_before s b is = elim (row_of s b is) [
    | inl here ↦ (row, subst (λ (x : ℕ). IsRow st x row) (sym here.0) is_t, ap (λ (r : TaskRow). r.frame) here.1, ap (λ (r : TaskRow). r.args) here.1)
    | inr other ↦ (b, other.1, refl, refl)
  ]

  pub admission_kept : Kept p new
  admission_kept = record {
    runs = λ s b is.
        let a = frame_before s b is in
        subst (λ (f : Frame). RunsWith p b.args f) (sym a.2) (subst (λ (args : List ℤ). RunsWith p args a.0.frame) (sym a.3) (kept.runs s a.0 a.1));
    within = within_later st new continues kept.within;
    siblings = siblings_later st new continues kept.siblings;
    paths = λ s b is some.
        let a = frame_before s b is in
        subst (λ (f : Frame). OnPath p new.tasks f) (sym a.2)
        (on_path_later p st new a.0.frame continues (kept.paths s a.0 a.1 (λ none. some (ap (λ (f : Frame). f.body) a.2 ∙ none))));
    isolated = isolated_new;
  }
