-- A task whose last entry made a task waits for nobody: its next operation is no wait after that entry, and no move of
-- another task changes this.
use Rattle.std.proofs.Common.{◌≡◌, ◌≢◌, ◌+◌, ◌==◌, ℕ, ℤ, Bool, true, false, cond, List, [], ◌∷◌, Option, None, Some, inl, inr, refl, sym, ap, ◌∙◌, subst, nat_lt, eq-eqb, eqb-true}
use Rattle.std.specs.Prelude.{filter, option_and_then, slice_get, slice_set}
use Rattle.std.specs.List.{last_or}
use Rattle.twe_base.specs.declared.place.Place.{Place}
use Rattle.effect_sets.specs.declared.effects.Summary.{Summary}
use Rattle.twe_base.specs.declared.fault.FaultKind.TheVariants.{TaskLimit}
use Rattle.twe_base.specs.Limits.{Bounds}
use Rattle.seg_journal.specs.declared.journal.End.{End}
use Rattle.seg_journal.specs.declared.journal.End.TheVariants as ends
use Rattle.seg_journal.specs.declared.journal.Entry.{Entry}
use Rattle.seg_journal.specs.declared.moves.Kind.{Kind}
use Rattle.seg_journal.specs.declared.moves.Kind.TheVariants.{Admit, Run}
use Rattle.twe_program.specs.Program.{Program}
use Rattle.twe_program.specs.WellFormed.{IsWellFormed}
use Rattle.seg_meaning.specs.declared.frame.Frame.{Frame}
use Rattle.seg_meaning.specs.declared.stop.Stop.{Stop}
use Rattle.seg_meaning.specs.declared.stop.Stop.TheVariants as stops
use Rattle.seg_meaning.specs.Segment.{Stopped, segment}
use Rattle.machine_state.specs.segment_laws.Keeps.{NextAfter}
use Rattle.machine_state.proofs.segment_laws.SegmentKept.{segment_keeps}
use Rattle.wait_graph.specs.declared.tasks.Link.{Link}
use Rattle.wait_graph.specs.Link.{link_of}
use Rattle.machine_state.specs.declared.state.State.{State}
use Rattle.machine_state.specs.declared.state.TaskRow.{TaskRow}
use Rattle.machine_state.specs.Legal.{MayTake}
use Rattle.machine_state.specs.Moves.{going_row, joined_child, joined_row, making_frame, move_result, new_row, parent_of, ran, ready_frame, result_by_kind, start_of, state_after_asking, state_after_fault, state_after_join, state_after_make, stop_result, stopped_frame}
use Rattle.machine_state.specs.Rows.{IsRow, row_awaited}
use Rattle.machine_state.specs.Runs.{Legal, LegalFrom, replayed, state_after}
use Rattle.machine_state.proofs.standing.Halfway.{halfway}
use Rattle.machine_state.proofs.tasks.OtherRows.{row_after}
use Rattle.machine_state.proofs.lists.Places.{put_before, set_same}
use Rattle.machine_state.proofs.standing.ReachedStands.{run_stands, start_stands, taken_stands}
use Rattle.machine_state.proofs.standing.Standing.{Stands}
use Rattle.isolation_laws.specs.Admission.{LastMakersAreFree, task_made}
use Rattle.isolation_laws.proofs.rows.LinksOfRows.{link_there}

-- the next operation of task t is no wait
pub record IsFree (st : State) (t : ℕ) : Type 0 where
  pub row : TaskRow
  pub there : IsRow st t row
  pub free : row_awaited row.frame.next ≡ None

-- the end of a move that has made this task
end_that_made : (end : End) (number : ℕ) → task_made end ≡ Some number → end ≡ ends.Made number
end_that_made ends.Admitted number made = absurd (cc (made))
end_that_made (ends.Made child) number made = let same : child ≡ number = cc (made) in ap ends.Made same
end_that_made (ends.Waits on) number made = absurd (cc (made))
end_that_made (ends.Joins on) number made = absurd (cc (made))
end_that_made (ends.Done value) number made = absurd (cc (made))
end_that_made (ends.Fault kind place) number made = absurd (cc (made))

-- The task that makes a task.

module _ (lim : Bounds) (st : State) (t : ℕ) (row : TaskRow) (here : IsRow st t row) (frame : Frame) where
  free_by : (number : ℕ) (b : Bool) (child : Frame) (args : List ℤ) (effects : Summary) (spawned : Bool) (future : ℕ) (place : Place) → row_awaited frame.next ≡ None
      → (cond {A = State × End} b (state_after_make lim st t row frame future spawned child args effects, ends.Made (st.asked + 1))
      (state_after_fault (state_after_asking st) t row (stopped_frame frame) TaskLimit place, ends.Fault TaskLimit place)).1 ≡ ends.Made number
      → IsFree (cond {A = State × End} b (state_after_make lim st t row frame future spawned child args effects, ends.Made (st.asked + 1))
      (state_after_fault (state_after_asking st) t row (stopped_frame frame) TaskLimit place, ends.Fault TaskLimit place)).0 t
  free_by number true child args effects spawned future place free made =
      let going = going_row row (making_frame future spawned (st.asked + 1) frame) in
      record {
        row = going;
        there = put_before (slice_set st.tasks t going) (new_row lim (st.asked + 1) (parent_of t spawned) child args effects) t going (set_same st.tasks t row going here);
        free = free;
      }
  free_by number false child args effects spawned future place free made = absurd (cc (made))

  stop_free : (number : ℕ) (stop : Stop) → NextAfter stop frame → (stop_result lim st t row frame stop).1 ≡ ends.Made number → IsFree (stop_result lim st t row frame stop).0 t
  stop_free number (stops.Make child args effects spawned future place) next made =
      free_by number (nat_lt (st.asked + 1) lim.tasks) child args effects spawned future place (ap row_awaited next) made
  stop_free number (stops.Waits on) next made = absurd (cc (made))
  stop_free number (stops.Joins on) next made = absurd (cc (made))
  stop_free number (stops.Done value) next made = absurd (cc (made))
  stop_free number (stops.Fault kind place) next made = absurd (cc (made))

module _ (p : Program) (wf : IsWellFormed p) (lim : Bounds) where
  ran_free : (st : State) (t : ℕ) → Stands p lim st → MayTake st Run t → (number : ℕ) (found : Option TaskRow) → slice_get st.tasks t ≡ found
      → (ran p lim st t found).1 ≡ ends.Made number → IsFree (ran p lim st t found).0 t
  ran_free st t stands may number None is made = absurd (cc (may.0.1, is))
  ran_free st t stands may number (Some row) is made =
      let after : Stopped = segment p (ready_frame st.tasks row.frame) st.cells in
      let joined : State = state_after_join (record st { cells = after.cells }) (joined_child row.out (link_of st.links t).waits) in
      stop_free lim joined t row (halfway p lim st stands t row is may.1).almost.own after.frame number after.stop
      (segment_keeps p (ready_frame st.tasks row.frame) st.cells).next made

  maker_free : (st : State) (kind : Kind) (t number : ℕ) → Stands p lim st → MayTake st kind t → (result_by_kind p lim st kind t).1 ≡ ends.Made number
      → IsFree (result_by_kind p lim st kind t).0 t
  maker_free st Admit t number stands may made = absurd (cc (made))
  maker_free st Run t number stands may made = ran_free st t stands may number (slice_get st.tasks t) refl made

  -- a move of another task
  other_free : (st : State) (kind : Kind) (t u : ℕ) → u ≢ t → IsFree st u → IsFree (result_by_kind p lim st kind t).0 u
  other_free st kind t u other was =
      elim (row_after p lim st t u other was.row was.there kind) [
        | inl stays ↦ record { row = was.row; there = stays.1; free = was.free }
        | inr marked ↦ record { row = joined_row was.row; there = marked.1; free = was.free }
      ]

  -- A journal, of which this was the last entry of t so far.

  abbrev entries_of : ℕ → List Entry → List Entry
  entries_of t journal = filter (λ (entry : Entry). entry.mv.task == t) journal

  -- if that entry made a task, t is free
  abbrev FreeIfMade : State → ℕ → Option Entry → Type 0
  FreeIfMade st t last = (number : ℕ) → option_and_then (λ (entry : Entry). task_made entry.end) last ≡ Some number → IsFree st t

  own_entry : (st : State) (entry : Entry) (t : ℕ) → entry.mv.task ≡ t → Stands p lim st → MayTake st entry.mv.kind entry.mv.task
      → (move_result p lim st entry.mv).1 ≡ entry.end → FreeIfMade (move_result p lim st entry.mv).0 t (Some entry)
  own_entry st entry t own stands may same_end number made =
      subst (IsFree (move_result p lim st entry.mv).0) own
      (maker_free st entry.mv.kind entry.mv.task number stands may (same_end ∙ end_that_made entry.end number made))

  -- by whether the next entry is one of t
  last_by : (t : ℕ) (entry : Entry) (journal : List Entry) (st : State) (last : Option Entry) (own : Bool) → (entry.mv.task == t) ≡ own
      → LegalFrom p lim st (entry ∷ journal) → Stands p lim st → FreeIfMade st t last
      → ((next : Option Entry) → FreeIfMade (move_result p lim st entry.mv).0 t next
      → FreeIfMade (replayed p lim st (entry ∷ journal)) t (last_or next (entries_of t journal)))
      → FreeIfMade (replayed p lim st (entry ∷ journal)) t (last_or last (cond own (entry ∷ entries_of t journal) (entries_of t journal)))
  last_by t entry journal st last true is legal stands so_far rest = rest (Some entry) (own_entry st entry t (eqb-true entry.mv.task t is) stands legal.0 legal.1)
  last_by t entry journal st last false is legal stands so_far rest =
      let other : t ≢ entry.mv.task = λ same. let equal : (entry.mv.task == t) ≡ true = eq-eqb entry.mv.task t (sym same) in cc (is, equal) in
      rest last (λ number made. other_free st entry.mv.kind entry.mv.task t other (so_far number made))

  last_free : (t : ℕ) (journal : List Entry) (st : State) (last : Option Entry) → LegalFrom p lim st journal → Stands p lim st → FreeIfMade st t last
      → FreeIfMade (replayed p lim st journal) t (last_or last (entries_of t journal))
  last_free t [] st last legal stands so_far = so_far
  last_free t (entry ∷ journal) st last legal stands so_far =
      last_by t entry journal st last (entry.mv.task == t) refl legal stands so_far
      (λ next now. last_free t journal (move_result p lim st entry.mv).0 next legal.2 (taken_stands p lim wf st entry.mv.kind entry.mv.task legal.0 stands) now)

  pub last_makers_free : (journal : List Entry) → Legal p lim journal → LastMakersAreFree journal (state_after p lim journal)
  last_makers_free journal legal t child made u wait =
      let st : State = state_after p lim journal in
      let start = start_stands p lim wf in
      let is = last_free t journal (start_of p lim) None legal start (λ number none. absurd (cc (none))) child made in
      let stands = run_stands p lim wf (start_of p lim) journal legal start in
      let free : (link_of st.links t).waits ≡ None = ap (λ (l : Link). l.waits) (link_there st stands.links t is.row is.there) ∙ is.free in
      let some : (link_of st.links t).waits ≡ Some u = wait.waits in
      cc (free, some)
