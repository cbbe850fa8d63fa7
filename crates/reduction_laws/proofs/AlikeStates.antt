-- Two states of runs without a fault that are the same but for the numbers of the tasks.
use Rattle.std.proofs.Common.{◌≡◌, ◌≤◌, ◌++◌, ℕ, false, length, Option, None, Some, refl, sym, ap, ◌∙◌, subst, arith}
use Rattle.std.specs.Prelude.{option_map, slice_get}
use Rattle.twe_base.specs.Limits.{Bounds}
use Rattle.seg_journal.specs.declared.moves.Kind.TheVariants.{Run}
use Rattle.twe_program.specs.Program.{Program}
use Rattle.twe_program.specs.WellFormed.{IsWellFormed}
use Rattle.seg_meaning.specs.declared.frame.Frame.{Frame}
use Rattle.seg_meaning.specs.Giving.{given}
use Rattle.seg_meaning.specs.Segment.{Stopped, segment}
use Rattle.isolation_laws.specs.soundness.KeepsEffects.{KeepsEffects}
use Rattle.machine_state.specs.declared.state.State.{State}
use Rattle.machine_state.specs.declared.state.TaskRow.{TaskRow}
use Rattle.machine_state.specs.Changes.{next_segment}
use Rattle.machine_state.specs.Legal.{MayRun}
use Rattle.machine_state.specs.Moves.{awaited_value, ready_frame, value_of}
use Rattle.machine_state.specs.Rows.{IsRow, row_awaited}
use Rattle.machine_state.specs.Runs.{IsReached}
use Rattle.machine_state.proofs.segment_laws.BeingReady.{ready_given}
use Rattle.machine_state.proofs.standing.ReachedStands.{reached_stands}
use Rattle.machine_state.proofs.tasks.LeftAlone.{moves_leave_alone}
use Rattle.determinism_laws.specs.numbering.Renumbering.{Numbering, frame_renumbered, stopped_renumbered}
use Rattle.determinism_laws.proofs.numbering.BetweenSegments.{given_renumbered}
use Rattle.determinism_laws.proofs.numbering.Renumbered.{same_segment}
use Rattle.determinism_laws.proofs.Exchanged.{after_run}
use Rattle.determinism_laws.proofs.MovedRows.{rows_after}
use Rattle.determinism_laws.proofs.NearFaults.{ends_in_fault, reached_more}
use Rattle.determinism_laws.proofs.RenumberedRows.{awaited_renumbered, fault_of_stop, row_renumbered}
use Rattle.determinism_laws.proofs.SameMoves.{Exchanges, SameStates, may_too, row_back, same_after, tells_apart}
use Rattle.reduction_laws.proofs.Faults.{segment_none}
use Rattle.reduction_laws.proofs.TurnedNumbers.{row_twice}

-- The states are reached, no task has met a fault, and they are the same but for the numbers of the tasks.
pub record Alike (p : Program) (lim : Bounds) (to : Numbering) (st other : State) : Type 0 where
  pub same : SameStates to st other
  pub prints : other.prints ≡ st.prints
  pub exchanges : Exchanges to (length st.tasks)
  pub reached : IsReached p lim st
  pub reached_too : IsReached p lim other
  pub faultless : st.first_fault ≡ None
  pub faultless_too : other.first_fault ≡ None

module _ (p : Program) (wf : IsWellFormed p) (lim : Bounds) (to : Numbering) (st other : State) (alike : Alike p lim to st other) where
  -- each row of the other state is one of this with other numbers
  pub its_row : (u : ℕ) (r : TaskRow) → IsRow other u r → (row : TaskRow) × IsRow st (to u) row × (r ≡ row_renumbered to row)
  its_row u r here = row_back p wf lim to st other alike.exchanges alike.reached alike.reached_too alike.same u r here

  row_turned : (u : ℕ) (r : TaskRow) → IsRow other u r → IsRow st (to u) (row_renumbered to r)
  row_turned u r here =
      let was = its_row u r here in
      was.1 ∙ ap Some (sym (ap (row_renumbered to) was.2 ∙ row_twice to alike.exchanges.back was.0))

  pub turned : Alike p lim to other st
  turned = record {
    same = record { rows = row_turned; count = sym alike.same.count; cells = sym alike.same.cells; asked = sym alike.same.asked };
    prints = sym alike.prints;
    exchanges = subst (Exchanges to) (sym alike.same.count) alike.exchanges;
    reached = alike.reached_too;
    reached_too = alike.reached;
    faultless = alike.faultless_too;
    faultless_too = alike.faultless;
  }

  -- A task that may run.
  module _ (keeps : KeepsEffects p) (t : ℕ) (row : TaskRow) (here : IsRow st t row) (may : MayRun st t) where
    abbrev row_too : TaskRow
    row_too = row_renumbered to row

    pub runs_too : MayRun other (to t)
    runs_too = may_too p wf lim to st other alike.exchanges alike.reached alike.reached_too alike.same t row here may

    -- its next segment is the same but for the numbers
    value_renumbered : (o : Option ℕ) → awaited_value other.tasks (option_map to o) ≡ awaited_value st.tasks o
    value_renumbered None = refl
    value_renumbered (Some on) = by_found (slice_get st.tasks on) refl
      where
        by_found : (found : Option TaskRow) → slice_get st.tasks on ≡ found → value_of (slice_get other.tasks (to on)) ≡ value_of (slice_get st.tasks on)
        by_found (Some b) at = ap value_of (alike.same.rows on b at) ∙ sym (ap value_of at)
        by_found None gone = by_other (slice_get other.tasks (to on)) refl
          where
            by_other : (found : Option TaskRow) → slice_get other.tasks (to on) ≡ found → value_of (slice_get other.tasks (to on)) ≡ value_of (slice_get st.tasks on)
            by_other None is = ap value_of is ∙ sym (ap value_of gone)
            by_other (Some r) is =
                let was = its_row (to on) r is in
                let at : slice_get st.tasks on ≡ Some was.0 = subst (λ (n : ℕ). slice_get st.tasks n ≡ Some was.0) (alike.exchanges.back on) was.1 in
                absurd (cc (gone, at))

    abbrev frame : Frame
    frame = ready_frame st.tasks row.frame

    frame_too : ready_frame other.tasks row_too.frame ≡ frame_renumbered to frame
    frame_too =
        ap (given row_too.frame) (ap (awaited_value other.tasks) (awaited_renumbered to row.frame.next) ∙ value_renumbered (row_awaited row.frame.next))
        ∙ given_renumbered to row.frame row_too.frame (awaited_value st.tasks (row_awaited row.frame.next))
        (λ on child is in_out equal. tells_apart to (length st.tasks) alike.exchanges child on equal) refl

    left_too : next_segment p other row_too ≡ stopped_renumbered to (next_segment p st row)
    left_too =
        ap (λ (f : Frame). segment p f other.cells) frame_too
        ∙ (ap (segment p (frame_renumbered to frame)) alike.same.cells
        ∙ same_segment p to frame (frame_renumbered to frame) st.cells
        (ready_given p row.frame (awaited_value st.tasks (row_awaited row.frame.next)) ((reached_stands p lim st wf alike.reached).rows t row here).ready) refl)

    pub ends_too : ends_in_fault lim other.asked (next_segment p other row_too).stop ≡ ends_in_fault lim st.asked (next_segment p st row).stop
    ends_too =
        ap (λ (x : Stopped). ends_in_fault lim other.asked x.stop) left_too
        ∙ (fault_of_stop to lim other.asked (next_segment p st row).stop ∙ ap (λ (n : ℕ). ends_in_fault lim n (next_segment p st row).stop) alike.same.asked)

    printed_after : (s : State) (u : ℕ) (r : TaskRow) → IsReached p lim s → IsRow s u r → MayRun s u → (after_run p lim s u).prints ≡ s.prints ++ (next_segment p s r).frame.prints
    printed_after s u r reached at runs = ((moves_leave_alone p lim s (record { task = u; kind = Run }) wf reached runs).results r at).prints

    -- after it the states are alike again
    pub alike_after : ends_in_fault lim st.asked (next_segment p st row).stop ≡ false → Alike p lim to (after_run p lim st t) (after_run p lim other (to t))
    alike_after fits =
        let at_other : IsRow other (to t) row_too = alike.same.rows t row here in
        let rows = rows_after p wf lim st alike.reached t row here may fits in
        let longer : length st.tasks ≤ length (after_run p lim st t).tasks = omega (arith, rows.count) in
        record {
          same = same_after p wf lim to st other alike.exchanges alike.reached alike.reached_too alike.same t row here may fits;
          prints =
              printed_after other (to t) row_too alike.reached_too at_other runs_too
              ∙ ((λ i. alike.prints i ++ (left_too i).frame.prints) ∙ sym (printed_after st t row alike.reached here may));
          exchanges = record { back = alike.exchanges.back; beyond = λ k least. alike.exchanges.beyond k (omega (arith, least, longer)) };
          reached = reached_more p wf keeps lim st (record { task = t; kind = Run }) alike.reached may;
          reached_too = reached_more p wf keeps lim other (record { task = to t; kind = Run }) alike.reached_too runs_too;
          faultless = segment_none p wf keeps lim st t row alike.reached here may alike.faultless fits;
          faultless_too = segment_none p wf keeps lim other (to t) row_too alike.reached_too at_other runs_too alike.faultless_too (ends_too ∙ fits);
        }
