-- The state after an entry: the row of its task, the row of a task that it makes, how it ends, and the rows of the others.
use Rattle.std.proofs.Common.{◌≡◌, ◌≢◌, ◌+◌, ◌<◌, ℕ, ℤ, Bool, true, false, cond, List, length, Option, None, Some, refl, sym, ap, subst, ◌∙◌, inl, inr, nat_lt, arith, length-set}
use Rattle.std.specs.Prelude.{slice_get, slice_set}
use Rattle.twe_base.specs.declared.place.Place.{Place}
use Rattle.effect_sets.specs.declared.effects.Summary.{Summary}
use Rattle.twe_base.specs.Limits.{Bounds}
use Rattle.twe_base.specs.declared.fault.FaultKind.TheVariants.{TaskLimit}
use Rattle.seg_journal.specs.declared.journal.End.{End}
use Rattle.seg_journal.specs.declared.journal.End.TheVariants as ends
use Rattle.seg_journal.specs.declared.moves.Kind.TheVariants.{Run}
use Rattle.wait_graph.specs.Link.{link_of}
use Rattle.twe_program.specs.Program.{Program}
use Rattle.seg_meaning.specs.declared.frame.Frame.{Frame}
use Rattle.seg_meaning.specs.declared.stop.Stop.{Stop}
use Rattle.seg_meaning.specs.declared.stop.Stop.TheVariants as stops
use Rattle.seg_meaning.specs.Segment.{Stopped, segment}
use Rattle.machine_state.specs.declared.state.State.{State}
use Rattle.machine_state.specs.declared.state.TaskRow.{TaskRow}
use Rattle.machine_state.specs.Moves.{done_row, faulted_row, going_row, joined_child, joined_row, making_frame, new_row, parent_of, ran, ready_frame, result_by_kind, state_after_asking, state_after_fault, state_after_join, state_after_make, stop_result, stopped_frame}
use Rattle.machine_state.specs.Rows.{IsRow}
use Rattle.machine_state.proofs.weight.JoinedWeight.{length_joined}
use Rattle.machine_state.proofs.tasks.OtherRows.{row_after as other_row}
use Rattle.machine_state.proofs.lists.Places.{put_before, put_last}
use Rattle.isolation_laws.proofs.rows.ListElements.{get_set_within}
use Rattle.floor_laws.specs.rule.Rows.{unmarked}
use Rattle.floor_laws.specs.rule.Steps.{end_after, row_after}

-- After a segment has stopped.
module _ (lim : Bounds) (st : State) (t : ℕ) (row : TaskRow) (frame : Frame) (there : t < length st.tasks) where
  set_there : (new : TaskRow) → slice_get (slice_set st.tasks t new) t ≡ Some new
  set_there new = get_set_within st.tasks t new there

  row_made : (b : Bool) (child : Frame) (args : List ℤ) (effects : Summary) (spawned : Bool) (future : ℕ) (place : Place)
      → IsRow (cond {A = State × End} b (state_after_make lim st t row frame future spawned child args effects, ends.Made (st.asked + 1))
      (state_after_fault (state_after_asking st) t row (stopped_frame frame) TaskLimit place, ends.Fault TaskLimit place)).0 t
      (cond {A = TaskRow} b (going_row row (making_frame future spawned (st.asked + 1) frame)) (faulted_row row (stopped_frame frame)))
  row_made true child args effects spawned future place =
      let going = going_row row (making_frame future spawned (st.asked + 1) frame) in
      put_before (slice_set st.tasks t going) (new_row lim (st.asked + 1) (parent_of t spawned) child args effects) t going (set_there going)
  row_made false child args effects spawned future place = set_there (faulted_row row (stopped_frame frame))

  -- the row of its task
  row_stopped : (stop : Stop) → IsRow (stop_result lim st t row frame stop).0 t (row_after lim st.asked row frame stop)
  row_stopped (stops.Make child args effects spawned future place) = row_made (nat_lt (st.asked + 1) lim.tasks) child args effects spawned future place
  row_stopped (stops.Waits on) = set_there (going_row row frame)
  row_stopped (stops.Joins on) = set_there (going_row row frame)
  row_stopped (stops.Done value) = set_there (done_row row frame value)
  row_stopped (stops.Fault kind place) = set_there (faulted_row row frame)

  -- the row of a task that it makes
  child_made : (b : Bool) (child : Frame) (args : List ℤ) (effects : Summary) (spawned : Bool) (future : ℕ) (place : Place) → b ≡ true → st.asked + 1 ≡ length st.tasks
      → IsRow (cond {A = State × End} b (state_after_make lim st t row frame future spawned child args effects, ends.Made (st.asked + 1))
      (state_after_fault (state_after_asking st) t row (stopped_frame frame) TaskLimit place, ends.Fault TaskLimit place)).0 (st.asked + 1)
      (new_row lim (st.asked + 1) (parent_of t spawned) child args effects)
  child_made true child args effects spawned future place is number =
      let going = going_row row (making_frame future spawned (st.asked + 1) frame) in
      put_last (slice_set st.tasks t going) (new_row lim (st.asked + 1) (parent_of t spawned) child args effects) (st.asked + 1) (number ∙ sym (length-set st.tasks t going))
  child_made false child args effects spawned future place is number = absurd (cc (is))

  end_made : (b : Bool) (child : Frame) (args : List ℤ) (effects : Summary) (spawned : Bool) (future : ℕ) (place : Place)
      → (cond {A = State × End} b (state_after_make lim st t row frame future spawned child args effects, ends.Made (st.asked + 1))
      (state_after_fault (state_after_asking st) t row (stopped_frame frame) TaskLimit place, ends.Fault TaskLimit place)).1
      ≡ cond {A = End} b (ends.Made (st.asked + 1)) (ends.Fault TaskLimit place)
  end_made true child args effects spawned future place = refl
  end_made false child args effects spawned future place = refl

  -- how it ends
  end_stopped : (stop : Stop) → (stop_result lim st t row frame stop).1 ≡ end_after lim st.asked stop
  end_stopped (stops.Make child args effects spawned future place) = end_made (nat_lt (st.asked + 1) lim.tasks) child args effects spawned future place
  end_stopped (stops.Waits on) = refl
  end_stopped (stops.Joins on) = refl
  end_stopped (stops.Done value) = refl
  end_stopped (stops.Fault kind place) = refl

asked_joined : (st : State) (child : Option ℕ) → (state_after_join st child).asked ≡ st.asked
asked_joined st None = refl
asked_joined st (Some c) = refl

-- After a move that runs a segment of t which leaves this.
module _ (p : Program) (lim : Bounds) (st : State) (t : ℕ) (row : TaskRow) (there : IsRow st t row) (below : t < length st.tasks) (left : Stopped) (is : segment p (ready_frame st.tasks row.frame) st.cells ≡ left) where
  abbrev next : State
  next = (result_by_kind p lim st Run t).0

  abbrev base : State
  base = state_after_join (record st { cells = left.cells }) (joined_child row.out (link_of st.links t).waits)

  moved : result_by_kind p lim st Run t ≡ stop_result lim base t row left.frame left.stop
  moved =
      ap (ran p lim st t) there
      ∙ ap (λ (s : Stopped). stop_result lim (state_after_join (record st { cells = s.cells }) (joined_child row.out (link_of st.links t).waits)) t row s.frame s.stop) is

  base_asked : base.asked ≡ st.asked
  base_asked = asked_joined (record st { cells = left.cells }) (joined_child row.out (link_of st.links t).waits)

  base_tasks : length base.tasks ≡ length st.tasks
  base_tasks = length_joined (record st { cells = left.cells }) (joined_child row.out (link_of st.links t).waits)

  base_below : t < length base.tasks
  base_below = omega (arith, base_tasks, below)

  pub row_next : IsRow next t (row_after lim st.asked row left.frame left.stop)
  row_next =
      subst (λ (x : State × End). IsRow x.0 t (row_after lim st.asked row left.frame left.stop)) (sym moved)
      (subst (λ (n : ℕ). IsRow (stop_result lim base t row left.frame left.stop).0 t (row_after lim n row left.frame left.stop)) base_asked (row_stopped lim base t row left.frame base_below left.stop))

  pub end_next : (result_by_kind p lim st Run t).1 ≡ end_after lim st.asked left.stop
  end_next = ap (λ (x : State × End). x.1) moved ∙ (end_stopped lim base t row left.frame base_below left.stop ∙ ap (λ (n : ℕ). end_after lim n left.stop) base_asked)

  pub child_next : (child : Frame) (args : List ℤ) (effects : Summary) (spawned : Bool) (future : ℕ) (place : Place) → left.stop ≡ stops.Make child args effects spawned future place
      → nat_lt (st.asked + 1) lim.tasks ≡ true → st.asked + 1 ≡ length st.tasks → IsRow next (st.asked + 1) (new_row lim (st.asked + 1) (parent_of t spawned) child args effects)
  child_next child args effects spawned future place stop_is may number =
      let stop = stops.Make child args effects spawned future place in
      let may_base : nat_lt (base.asked + 1) lim.tasks ≡ true = ap (λ (n : ℕ). nat_lt (n + 1) lim.tasks) base_asked ∙ may in
      let number_base : base.asked + 1 ≡ length base.tasks = ap (λ (n : ℕ). n + 1) base_asked ∙ (number ∙ sym base_tasks) in
      let here : IsRow (stop_result lim base t row left.frame stop).0 (base.asked + 1) (new_row lim (base.asked + 1) (parent_of t spawned) child args effects) =
      child_made lim base t row left.frame base_below (nat_lt (base.asked + 1) lim.tasks) child args effects spawned future place may_base number_base in
      subst (λ (x : State × End). IsRow x.0 (st.asked + 1) (new_row lim (st.asked + 1) (parent_of t spawned) child args effects)) (sym moved)
      (subst (λ (s : Stop). IsRow (stop_result lim base t row left.frame s).0 (st.asked + 1) (new_row lim (st.asked + 1) (parent_of t spawned) child args effects)) (sym stop_is)
      (subst (λ (n : ℕ). IsRow (stop_result lim base t row left.frame stop).0 (n + 1) (new_row lim (n + 1) (parent_of t spawned) child args effects)) base_asked here))

-- Another task's row stays, but for the mark that it was joined.
pub record Stays (after : State) (u : ℕ) (row : TaskRow) : Type 0 where
  pub now : TaskRow
  pub there : IsRow after u now
  pub same : unmarked now ≡ unmarked row

pub stays : (p : Program) (lim : Bounds) (st : State) (t u : ℕ) (row : TaskRow) → u ≢ t → IsRow st u row → Stays (result_by_kind p lim st Run t).0 u row
stays p lim st t u row other there =
    elim (other_row p lim st t u other row there Run) [
      | inl same ↦ record { now = row; there = same.1; same = refl }
      | inr marked ↦ record { now = joined_row row; there = marked.1; same = refl }
    ]
