-- What a move makes of the rows of other tasks than its own: each stays, but for the mark of a child whose join is taken.
use Rattle.std.proofs.Common.{◌≡◌, ◌≢◌, ◌⊎◌, ◌+◌, ℕ, ℤ, Bool, true, false, cond, List, Option, None, Some, inl, inr, sym, ap, ◌∙◌, subst, nat_lt}
use Rattle.std.specs.Prelude.{slice_get, slice_set}
use Rattle.std.proofs.lemmas.Bool.{cases_eq}
use Rattle.twe_base.specs.declared.place.Place.{Place}
use Rattle.effect_sets.specs.declared.effects.Summary.{Summary}
use Rattle.seg_journal.specs.declared.journal.End.{End}
use Rattle.seg_journal.specs.declared.journal.End.TheVariants as ends
use Rattle.twe_base.specs.declared.fault.FaultKind.TheVariants.{TaskLimit}
use Rattle.seg_journal.specs.declared.moves.Kind.{Kind}
use Rattle.seg_journal.specs.declared.moves.Kind.TheVariants.{Admit, Run}
use Rattle.twe_base.specs.Limits.{Bounds}
use Rattle.wait_graph.specs.Link.{link_of}
use Rattle.twe_program.specs.Program.{Program}
use Rattle.seg_meaning.specs.declared.frame.Frame.{Frame}
use Rattle.seg_meaning.specs.declared.stop.Stop.{Stop}
use Rattle.seg_meaning.specs.declared.stop.Stop.TheVariants as stops
use Rattle.seg_meaning.specs.Segment.{segment}
use Rattle.machine_state.specs.declared.state.State.{State}
use Rattle.machine_state.specs.declared.state.TaskRow.{TaskRow}
use Rattle.machine_state.specs.Moves.{admitted, admitted_row, state_after_join, joined_child, joined_row, joined_rows, going_row, done_row, faulted_row, stopped_frame, making_frame, new_row, parent_of, state_after_make, state_after_fault, state_after_asking, stop_result, ran, ready_frame, result_by_kind}
use Rattle.machine_state.specs.Rows.{IsRow}
use Rattle.machine_state.proofs.links.Linked.{joined_other}
use Rattle.machine_state.proofs.lists.Places.{set_same, set_other, put_before}

-- the child whose join a move of this task takes
abbrev pub child_of : State → ℕ → Option TaskRow → Option ℕ
child_of st t None = None
child_of st t (Some row) = joined_child row.out (link_of st.links t).waits

abbrev pub taken_child : State → Kind → ℕ → Option ℕ
taken_child st Admit t = None
taken_child st Run t = child_of st t (slice_get st.tasks t)

-- the row of u stays, or u is the child whose join is taken, and its row is marked as joined
abbrev pub RowAfter : State → Option ℕ → ℕ → TaskRow → Type 0
RowAfter after child u row = ((child ≢ Some u) × IsRow after u row) ⊎ ((child ≡ Some u) × IsRow after u (joined_row row))

-- once the join is taken
row_joined : (st : State) (child : Option ℕ) (u : ℕ) (row : TaskRow) → IsRow st u row → RowAfter (state_after_join st child) child u row
row_joined st None u row here = inl (λ e. cc (e), here)
row_joined st (Some c) u row here =
    elim (cases_eq u c) [
      | inl is ↦
          let own : slice_get st.tasks c ≡ Some row = subst (λ (n : ℕ). slice_get st.tasks n ≡ Some row) is here in
          let marked : slice_get (joined_rows st.tasks c (slice_get st.tasks c)) c ≡ Some (joined_row row) =
          ap (λ (found : Option TaskRow). slice_get (joined_rows st.tasks c found) c) own ∙ set_same st.tasks c row (joined_row row) own in
          inr (ap Some (sym is), subst (λ (n : ℕ). slice_get (joined_rows st.tasks c (slice_get st.tasks c)) n ≡ Some (joined_row row)) (sym is) marked)
      | inr ne ↦ inl (λ e. let same : u ≡ c = cc in ne same, joined_other st.tasks c u (slice_get st.tasks c) ne ∙ here)
    ]

-- once the segment has stopped
module _ (lim : Bounds) (st : State) (t : ℕ) (row : TaskRow) (frame : Frame) (u : ℕ) (other : u ≢ t) (r : TaskRow) (here : IsRow st u r) where
  row_set : (new : TaskRow) → slice_get (slice_set st.tasks t new) u ≡ Some r
  row_set new = set_other st.tasks t u new other ∙ here

  row_made : (b : Bool) (child : Frame) (args : List ℤ) (effects : Summary) (spawned : Bool) (future : ℕ) (place : Place)
      → IsRow (cond {A = State × End} b (state_after_make lim st t row frame future spawned child args effects, ends.Made (st.asked + 1))
      (state_after_fault (state_after_asking st) t row (stopped_frame frame) TaskLimit place, ends.Fault TaskLimit place)).0 u r
  row_made true child args effects spawned future place =
      let going = going_row row (making_frame future spawned (st.asked + 1) frame) in
      put_before (slice_set st.tasks t going) (new_row lim (st.asked + 1) (parent_of t spawned) child args effects) u r (row_set going)
  row_made false child args effects spawned future place = row_set (faulted_row row (stopped_frame frame))

  row_stopped : (stop : Stop) → IsRow (stop_result lim st t row frame stop).0 u r
  row_stopped (stops.Make child args effects spawned future place) = row_made (nat_lt (st.asked + 1) lim.tasks) child args effects spawned future place
  row_stopped (stops.Waits on) = row_set (going_row row frame)
  row_stopped (stops.Joins on) = row_set (going_row row frame)
  row_stopped (stops.Done value) = row_set (done_row row frame value)
  row_stopped (stops.Fault kind place) = row_set (faulted_row row frame)

module _ (p : Program) (lim : Bounds) (st : State) (t u : ℕ) (other : u ≢ t) (r : TaskRow) (here : IsRow st u r) where
  row_admitted : (found : Option TaskRow) → RowAfter (admitted st t found) None u r
  row_admitted None = inl (λ e. cc (e), here)
  row_admitted (Some row) = inl (λ e. cc (e), set_other st.tasks t u (admitted_row row) other ∙ here)

  row_ran : (found : Option TaskRow) → RowAfter (ran p lim st t found).0 (child_of st t found) u r
  row_ran None = inl (λ e. cc (e), here)
  row_ran (Some row) =
      let after = segment p (ready_frame st.tasks row.frame) st.cells in
      let later : State = record st { cells = after.cells } in
      let child = joined_child row.out (link_of st.links t).waits in
      elim (row_joined later child u r here) [
        | inl stays ↦ inl (stays.0, row_stopped lim (state_after_join later child) t row after.frame u other r stays.1 after.stop)
        | inr marked ↦ inr (marked.0, row_stopped lim (state_after_join later child) t row after.frame u other (joined_row r) marked.1 after.stop)
      ]

  -- over a move
  pub row_after : (kind : Kind) → RowAfter (result_by_kind p lim st kind t).0 (taken_child st kind t) u r
  row_after Admit = row_admitted (slice_get st.tasks t)
  row_after Run = row_ran (slice_get st.tasks t)
