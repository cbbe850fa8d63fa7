-- The admissions of two tasks change places.
use Rattle.std.proofs.Common.{◌≡◌, ◌≢◌, ℕ, Some, inl, inr, sym, ap, ◌∙◌, subst}
use Rattle.twe_base.specs.Limits.{Bounds}
use Rattle.twe_program.specs.Program.{Program}
use Rattle.twe_program.specs.WellFormed.{IsWellFormed}
use Rattle.machine_state.specs.declared.state.State.{State}
use Rattle.machine_state.specs.declared.state.TaskRow.{TaskRow}
use Rattle.machine_state.specs.Moves.{admitted_row}
use Rattle.machine_state.specs.Rows.{IsRow}
use Rattle.machine_state.specs.Runs.{IsReached}
use Rattle.reduction_laws.proofs.Admissions.{admitted_asked, admitted_cells, admitted_count, admitted_fault, admitted_itself, admitted_other, admitted_prints, admitted_was, after_admission}
use Rattle.reduction_laws.proofs.EqualStates.{same_state}

module _ (st : State) (s t : ℕ) (differ : s ≢ t) (row_s row_t : TaskRow) (here_s : IsRow st s row_s) (here_t : IsRow st t row_t) where
  back : t ≢ s
  back e = differ (sym e)

  abbrev first : State
  first = after_admission st s

  abbrev second : State
  second = after_admission st t

  t_in_first : IsRow first t row_t
  t_in_first = admitted_other st s row_s here_s t row_t back here_t

  s_in_second : IsRow second s row_s
  s_in_second = admitted_other st t row_t here_t s row_s differ here_s

  abbrev both : State
  both = after_admission first t

  abbrev both_too : State
  both_too = after_admission second s

  row_there : (u : ℕ) (r : TaskRow) → IsRow both u r → IsRow both_too u r
  row_there u r at = elim (admitted_was first t row_t t_in_first u r at) [
    | inl own ↦
        let there = admitted_other second s row_s s_in_second t (admitted_row row_t) back (admitted_itself st t row_t here_t) in
        subst (λ (n : ℕ). IsRow both_too n r) (sym own.0) (there ∙ ap Some own.1)
    | inr before ↦ elim (admitted_was st s row_s here_s u r before.1) [
      | inl own ↦ subst (λ (n : ℕ). IsRow both_too n r) (sym own.0) (admitted_itself second s row_s s_in_second ∙ ap Some own.1)
      | inr old ↦ admitted_other second s row_s s_in_second u r old.0 (admitted_other st t row_t here_t u r before.0 old.1)
    ]
  ]

  pub admissions_agree : (p : Program) → IsWellFormed p → (lim : Bounds) → IsReached p lim both → IsReached p lim both_too → both ≡ both_too
  admissions_agree p wf lim reached reached_too = same_state p wf lim both both_too reached reached_too (record {
    rows = row_there;
    count = admitted_count first t row_t t_in_first ∙ (admitted_count st s row_s here_s ∙ (sym (admitted_count st t row_t here_t) ∙ sym (admitted_count second s row_s s_in_second)));
    cells = admitted_cells first t row_t t_in_first ∙ (admitted_cells st s row_s here_s ∙ (sym (admitted_cells st t row_t here_t) ∙ sym (admitted_cells second s row_s s_in_second)));
    prints = admitted_prints first t row_t t_in_first ∙ (admitted_prints st s row_s here_s ∙ (sym (admitted_prints st t row_t here_t) ∙ sym (admitted_prints second s row_s s_in_second)));
    asked = admitted_asked first t row_t t_in_first ∙ (admitted_asked st s row_s here_s ∙ (sym (admitted_asked st t row_t here_t) ∙ sym (admitted_asked second s row_s s_in_second)));
    first_fault = admitted_fault first t row_t t_in_first ∙ (admitted_fault st s row_s here_s ∙ (sym (admitted_fault st t row_t here_t) ∙ sym (admitted_fault second s row_s s_in_second)));
  })
