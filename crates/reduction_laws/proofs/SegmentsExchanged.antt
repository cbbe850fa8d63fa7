-- The next segments of two tasks that may run, in either order, lead to states that are the same but for numbers.
use Rattle.std.proofs.Common.{◌≡◌, ◌≢◌, ◌++◌, ℕ, true, false, length, None, sym, ap, ◌∙◌, subst, inl, inr}
use Rattle.std.proofs.lemmas.Bool.{cases_Bool, false≢true}
use Rattle.twe_base.specs.Limits.{Bounds}
use Rattle.seg_journal.specs.declared.moves.Kind.TheVariants.{Run}
use Rattle.twe_program.specs.Program.{Program}
use Rattle.twe_program.specs.WellFormed.{IsWellFormed}
use Rattle.seg_meaning.specs.Segment.{Stopped}
use Rattle.isolation_laws.specs.soundness.KeepsEffects.{KeepsEffects}
use Rattle.machine_state.specs.declared.state.State.{State}
use Rattle.machine_state.specs.declared.state.TaskRow.{TaskRow}
use Rattle.machine_state.specs.Changes.{next_segment}
use Rattle.machine_state.specs.Legal.{MayRun}
use Rattle.machine_state.specs.Rows.{IsRow}
use Rattle.machine_state.specs.Runs.{IsReached}
use Rattle.machine_state.proofs.tasks.LeftAlone.{moves_leave_alone}
use Rattle.determinism_laws.specs.Independence.{KeepsNextSegment}
use Rattle.determinism_laws.proofs.Exchanged.{Ready, after_run, count_is, fits_back, orders_lead_alike}
use Rattle.determinism_laws.proofs.KeptSegments.{keeps_next_segment}
use Rattle.determinism_laws.proofs.NearFaults.{ends_in_fault, reached_more}
use Rattle.determinism_laws.proofs.SameMoves.{Exchanges}
use Rattle.determinism_laws.proofs.Swaps.{Swapped, swapped}
use Rattle.reduction_laws.proofs.AlikeStates.{Alike}
use Rattle.reduction_laws.proofs.Faults.{segment_none}
use Rattle.reduction_laws.proofs.PrintsApart.{prints_agree}

module _ (p : Program) (wf : IsWellFormed p) (keeps : KeepsEffects p) (lim : Bounds) (st : State) (reached : IsReached p lim st) (s t : ℕ) (differ : s ≢ t)
    (of_s : Ready p lim st s) (of_t : Ready p lim st t) where
  abbrev one : Stopped
  one = next_segment p st of_s.row

  abbrev two : Stopped
  two = next_segment p st of_t.row

  abbrev st_one : State
  st_one = after_run p lim st s

  abbrev st_two : State
  st_two = after_run p lim st t

  back : t ≢ s
  back e = differ (sym e)

  pub reached_one : IsReached p lim st_one
  reached_one = reached_more p wf keeps lim st (record { task = s; kind = Run }) reached of_s.may

  pub reached_two : IsReached p lim st_two
  reached_two = reached_more p wf keeps lim st (record { task = t; kind = Run }) reached of_t.may

  pub kept_two : KeepsNextSegment p st st_one t of_t.row
  kept_two = keeps_next_segment p wf keeps lim st reached t of_t.row (record { task = s; kind = Run }) differ of_t.here of_t.may of_s.may

  pub kept_one : KeepsNextSegment p st st_two s of_s.row
  kept_one = keeps_next_segment p wf keeps lim st reached s of_s.row (record { task = t; kind = Run }) back of_s.here of_s.may of_t.may

  -- if one of the two has no room after the other, so it is in the other order
  pub full_after : ends_in_fault lim st_one.asked two.stop ≡ true → ends_in_fault lim st_two.asked one.stop ≡ true
  full_after full = elim (cases_Bool (ends_in_fault lim st_two.asked one.stop)) [
    | inl fault ↦ fault
    | inr fits ↦ absurd (false≢true (sym (fits_back p wf keeps lim st reached t s back of_t of_s fits) ∙ full))
  ]

  printed : (x : State) (u : ℕ) (row : TaskRow) → IsReached p lim x → IsRow x u row → MayRun x u → (after_run p lim x u).prints ≡ x.prints ++ (next_segment p x row).frame.prints
  printed x u row reached_x at may = ((moves_leave_alone p lim x (record { task = u; kind = Run }) wf reached_x may).results row at).prints

  module _ (faultless : st.first_fault ≡ None) (fits : ends_in_fault lim st_one.asked two.stop ≡ false) where
    abbrev one_two : State
    one_two = after_run p lim st_one t

    abbrev two_one : State
    two_one = after_run p lim st_two s

    room : ends_in_fault lim st_two.asked one.stop ≡ false
    room = fits_back p wf keeps lim st reached s t differ of_s of_t fits

    pub swap : Swapped (length st.tasks) one.stop two.stop
    swap = swapped (length st.tasks) one.stop two.stop

    same_prints : two_one.prints ≡ one_two.prints
    same_prints =
        (printed st_two s of_s.row reached_two kept_one.there kept_one.may ∙ (λ i. printed st t of_t.row reached of_t.here of_t.may i ++ (kept_one.same i).frame.prints))
        ∙ (sym (prints_agree p wf keeps lim st reached s t of_s.row of_t.row differ of_s.here of_t.here of_s.may of_t.may st.prints)
        ∙ sym (printed st_one t of_t.row reached_one kept_two.there kept_two.may ∙ (λ i. printed st s of_s.row reached of_s.here of_s.may i ++ (kept_two.same i).frame.prints)))

    pub orders_alike : Alike p lim swap.to one_two two_one
    orders_alike = record {
      same = orders_lead_alike p wf keeps lim st reached s t differ of_s of_t fits swap.to swap.swaps;
      prints = same_prints;
      exchanges = subst (Exchanges swap.to) (sym (count_is p wf keeps lim st reached s t differ of_s of_t fits)) swap.exchanges;
      reached = reached_more p wf keeps lim st_one (record { task = t; kind = Run }) reached_one kept_two.may;
      reached_too = reached_more p wf keeps lim st_two (record { task = s; kind = Run }) reached_two kept_one.may;
      faultless =
          segment_none p wf keeps lim st_one t of_t.row reached_one kept_two.there kept_two.may
          (segment_none p wf keeps lim st s of_s.row reached of_s.here of_s.may faultless of_s.fits) (ap (λ (x : Stopped). ends_in_fault lim st_one.asked x.stop) kept_two.same ∙ fits);
      faultless_too =
          segment_none p wf keeps lim st_two s of_s.row reached_two kept_one.there kept_one.may
          (segment_none p wf keeps lim st t of_t.row reached of_t.here of_t.may faultless of_t.fits) (ap (λ (x : Stopped). ends_in_fault lim st_two.asked x.stop) kept_one.same ∙ room);
    }
