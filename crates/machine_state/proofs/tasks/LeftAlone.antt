-- A legal move leaves alone what isn't its own.
use Rattle.std.proofs.Common.{◌≡◌, ◌≢◌, ◌+◌, ◌++◌, ◌<◌, ℕ, ℤ, Bool, true, false, cond, List, [], ◌∷◌, length, Option, None, Some, inl, inr, refl, sym, ap, ◌∙◌, subst, arith, nat_lt, length-append, length-set, ltb-true}
use Rattle.std.specs.Prelude.{slice_get, slice_set}
use Rattle.std.proofs.lemmas.List.{length-map}
use Rattle.twe_base.specs.declared.place.Place.{Place}
use Rattle.effect_sets.specs.declared.effects.Summary.{Summary}
use Rattle.seg_journal.specs.declared.journal.End.{End}
use Rattle.seg_journal.specs.declared.journal.End.TheVariants as ends
use Rattle.twe_base.specs.declared.fault.FaultKind.TheVariants.{TaskLimit}
use Rattle.seg_journal.specs.declared.moves.Kind.{Kind}
use Rattle.seg_journal.specs.declared.moves.Kind.TheVariants.{Admit, Run}
use Rattle.seg_journal.specs.declared.moves.Move.{Move}
use Rattle.twe_base.specs.Limits.{Bounds}
use Rattle.wait_graph.specs.declared.tasks.Link.{Link}
use Rattle.wait_graph.specs.Link.{link_of}
use Rattle.twe_program.specs.Program.{Program}
use Rattle.twe_program.specs.WellFormed.{IsWellFormed}
use Rattle.seg_meaning.specs.declared.frame.Frame.{Frame}
use Rattle.seg_meaning.specs.declared.stop.Stop.{Stop}
use Rattle.seg_meaning.specs.declared.stop.Stop.TheVariants as stops
use Rattle.seg_meaning.specs.Segment.{segment}
use Rattle.machine_state.specs.declared.state.State.{State}
use Rattle.machine_state.specs.declared.state.TaskRow.{TaskRow}
use Rattle.machine_state.specs.Changes.{ChangesAsSegment, IsTaskOf, LeavesAlone, ResultsAfter, TakesJoin, asked_by, fault_after, made_by, next_segment}
use Rattle.machine_state.specs.Legal.{MayMove, MayTake}
use Rattle.machine_state.specs.Moves.{admitted, admitted_row, state_after_asking, done_row, state_after_fault, faulted_row, going_row, state_after_make, state_after_join, joined_child, joined_row, making_frame, move_result, new_row, parent_of, ran, ready_frame, stop_result, stopped_frame, result_by_kind}
use Rattle.machine_state.specs.Rows.{IsRow, link_of_row}
use Rattle.machine_state.specs.Runs.{IsReached}
use Rattle.machine_state.proofs.weight.JoinedWeight.{length_joined}
use Rattle.machine_state.proofs.links.Ordered.{parent_down}
use Rattle.machine_state.proofs.tasks.OtherRows.{row_after}
use Rattle.machine_state.proofs.lists.Places.{below_there, got_one}
use Rattle.machine_state.proofs.standing.LaterStates.{taken_later}
use Rattle.machine_state.proofs.standing.ReachedStands.{linked_of, reached_stands, taken_stands}
use Rattle.machine_state.proofs.standing.Standing.{Stands}
use Rattle.machine_state.proofs.links.TakenJoins.{row_link, spawned_child, takes_child}

-- What the end of a segment makes of the rest of the state.
record EndsAs (st after : State) (frame : Frame) (stop : Stop) (t : ℕ) (end : End) : Type 0 where
  tasks : length after.tasks ≡ length st.tasks + made_by end
  made : (child : ℕ) → end ≡ ends.Made child → child ≡ length st.tasks
  cells : after.cells ≡ st.cells
  prints : after.prints ≡ st.prints ++ frame.prints
  asked : after.asked ≡ st.asked + asked_by stop
  first_fault : after.first_fault ≡ fault_after st.first_fault t end

-- the join that the segment took is no part of it
ends_joined : (st after : State) (child : Option ℕ) (frame : Frame) (stop : Stop) (t : ℕ) (end : End) → EndsAs (state_after_join st child) after frame stop t end → EndsAs st after frame stop t end
ends_joined st after None frame stop t end rest = rest
ends_joined st after (Some c) frame stop t end rest =
    let count : length (state_after_join st (Some c)).tasks ≡ length st.tasks = length_joined st (Some c) in
    record {
      tasks = rest.tasks ∙ ap (λ (n : ℕ). n + made_by end) count;
      made = λ child is. rest.made child is ∙ count;
      cells = rest.cells;
      prints = rest.prints;
      asked = rest.asked;
      first_fault = rest.first_fault;
    }

module _ (lim : Bounds) (st : State) (t : ℕ) (row : TaskRow) (frame : Frame) (number : st.asked + 1 < lim.tasks → st.asked + 1 ≡ length st.tasks) where
  as_many : (new : TaskRow) → length (slice_set st.tasks t new) ≡ length st.tasks + 0
  as_many new = length-set st.tasks t new ∙ omega arith

  none_asked : st.asked ≡ st.asked + 0
  none_asked = omega arith

  ends_made : (b : Bool) → nat_lt (st.asked + 1) lim.tasks ≡ b → (child : Frame) (args : List ℤ) (effects : Summary) (spawned : Bool) (future : ℕ) (place : Place)
      → let after = cond {A = State × End} b (state_after_make lim st t row frame future spawned child args effects, ends.Made (st.asked + 1))
      (state_after_fault (state_after_asking st) t row (stopped_frame frame) TaskLimit place, ends.Fault TaskLimit place) in
      EndsAs st after.0 frame (stops.Make child args effects spawned future place) t after.1
  ends_made true e child args effects spawned future place =
      let going = going_row row (making_frame future spawned (st.asked + 1) frame) in
      let new = new_row lim (st.asked + 1) (parent_of t spawned) child args effects in
      record {
        tasks = length-append (slice_set st.tasks t going) (new ∷ []) ∙ ap (λ (n : ℕ). n + 1) (length-set st.tasks t going);
        made = λ c is. let same : st.asked + 1 ≡ c = cc (is) in sym same ∙ number (ltb-true (st.asked + 1) lim.tasks e);
        cells = refl;
        prints = refl;
        asked = refl;
        first_fault = refl;
      }
  ends_made false e child args effects spawned future place = record {
    tasks = as_many (faulted_row row (stopped_frame frame));
    made = λ c is. absurd (cc (is));
    cells = refl;
    prints = refl;
    asked = refl;
    first_fault = refl;
  }

  ends_stopped : (stop : Stop) → EndsAs st (stop_result lim st t row frame stop).0 frame stop t (stop_result lim st t row frame stop).1
  ends_stopped (stops.Make child args effects spawned future place) = ends_made (nat_lt (st.asked + 1) lim.tasks) refl child args effects spawned future place
  ends_stopped (stops.Waits on) = record {
    tasks = as_many (going_row row frame);
    made = λ c is. absurd (cc (is));
    cells = refl;
    prints = refl;
    asked = none_asked;
    first_fault = refl;
  }
  ends_stopped (stops.Joins on) = record {
    tasks = as_many (going_row row frame);
    made = λ c is. absurd (cc (is));
    cells = refl;
    prints = refl;
    asked = none_asked;
    first_fault = refl;
  }
  ends_stopped (stops.Done value) = record {
    tasks = as_many (done_row row frame value);
    made = λ c is. absurd (cc (is));
    cells = refl;
    prints = refl;
    asked = none_asked;
    first_fault = refl;
  }
  ends_stopped (stops.Fault kind place) = record {
    tasks = as_many (faulted_row row frame);
    made = λ c is. absurd (cc (is));
    cells = refl;
    prints = refl;
    asked = none_asked;
    first_fault = refl;
  }

-- The same of a move.
record MoveEndsAs (p : Program) (st after : State) (kind : Kind) (t : ℕ) (end : End) : Type 0 where
  tasks : length after.tasks ≡ length st.tasks + made_by end
  made : (child : ℕ) → end ≡ ends.Made child → child ≡ length st.tasks
  results : ResultsAfter p st after kind t
  first_fault : after.first_fault ≡ fault_after st.first_fault t end

module _ (p : Program) (lim : Bounds) (st : State) (t : ℕ) where
  admission_ends : (row : TaskRow) → IsRow st t row → MoveEndsAs p st (admitted st t (Some row)) Admit t ends.Admitted
  admission_ends row found = record {
    tasks = length-set st.tasks t (admitted_row row) ∙ omega arith;
    made = λ c is. absurd (cc (is));
    results = record { cells = refl; prints = refl; asked = refl };
    first_fault = refl;
  }

  run_ends : (row : TaskRow) → IsRow st t row → (st.asked + 1 < lim.tasks → st.asked + 1 ≡ length st.tasks)
      → MoveEndsAs p st (ran p lim st t (Some row)).0 Run t (ran p lim st t (Some row)).1
  run_ends row found number =
      let left = segment p (ready_frame st.tasks row.frame) st.cells in
      let later : State = record st { cells = left.cells } in
      let child = joined_child row.out (link_of st.links t).waits in
      let end = ran p lim st t (Some row) in
      let rest = ends_joined later end.0 child left.frame left.stop t end.1
      (ends_stopped lim (state_after_join later child) t row left.frame (joined_number later child number) left.stop) in
      record {
        tasks = rest.tasks;
        made = rest.made;
        results = λ other here.
            subst (λ (r : TaskRow). ChangesAsSegment st end.0 (next_segment p st r)) (got_one (slice_get st.tasks t) found here)
            (record { cells = rest.cells; prints = rest.prints; asked = rest.asked });
        first_fault = rest.first_fault;
      } where
        joined_number : (s : State) (o : Option ℕ) → (s.asked + 1 < lim.tasks → s.asked + 1 ≡ length s.tasks)
            → (state_after_join s o).asked + 1 < lim.tasks → (state_after_join s o).asked + 1 ≡ length (state_after_join s o).tasks
        joined_number s None counts few = counts few
        joined_number s (Some c) counts few = counts few ∙ sym (length_joined s (Some c))

  move_ends : (kind : Kind) → MayTake st kind t → (st.asked + 1 < lim.tasks → st.asked + 1 ≡ length st.tasks)
      → MoveEndsAs p st (result_by_kind p lim st kind t).0 kind t (result_by_kind p lim st kind t).1
  move_ends Admit may number =
      subst (λ (found : Option TaskRow). MoveEndsAs p st (admitted st t found) Admit t ends.Admitted) (sym may.0.1) (admission_ends may.0.0 may.0.1)
  move_ends Run may number =
      subst (λ (found : Option TaskRow). MoveEndsAs p st (ran p lim st t found).0 Run t (ran p lim st t found).1) (sym may.0.1) (run_ends may.0.0 may.0.1 number)

module _ (p : Program) (lim : Bounds) (well : IsWellFormed p) (st : State) (kind : Kind) (t : ℕ) (may : MayTake st kind t) (stands : Stands p lim st) where
  abbrev after : State
  after = (result_by_kind p lim st kind t).0

  abbrev mv : Move
  mv = record { kind = kind; task = t }

  after_stands : Stands p lim after
  after_stands = taken_stands p lim well st kind t may stands

  own_row : (row : TaskRow) → IsRow st t row → IsTaskOf after t row
  own_row row here =
      let kept = (taken_later p lim st kind t (linked_of p lim well st stands)).kept t row here in
      record { now = kept.now; there = kept.there; decl = kept.decl; args = kept.args; effects = kept.effects; parent = kept.parent }

  other_rows : (u : ℕ) (row : TaskRow) → u ≢ t → ¬ TakesJoin st mv u → IsRow st u row → IsRow after u row
  other_rows u row ne free here =
      elim (row_after p lim st t u ne row here kind) [
        | inl stays ↦ stays.1
        | inr marked ↦ absurd (free ((takes_child p lim st stands kind t u may).0 marked.0))
      ]

  child_row : (c : ℕ) (row : TaskRow) → TakesJoin st mv c → IsRow st c row → IsRow after c (joined_row row)
  child_row c row takes here =
      let above : t < c = parent_down p lim st stands c t takes.child.parent in
      let ne : c ≢ t = λ is. omega arith in
      elim (row_after p lim st t c ne row here kind) [
        | inl stays ↦ absurd (stays.0 ((takes_child p lim st stands kind t c may).1 takes))
        | inr marked ↦ marked.1
      ]

  other_links : (u : ℕ) → u < length st.tasks → u ≢ t → ¬ TakesJoin st mv u → link_of after.links u ≡ link_of st.links u
  other_links u below ne free =
      let row = below_there st.tasks u below in
      row_link p lim after after_stands u row.0 (other_rows u row.0 ne free row.1) ∙ sym (row_link p lim st stands u row.0 row.1)

  child_link : (c : ℕ) → TakesJoin st mv c → link_of after.links c ≡ record (link_of st.links c) { joined = true }
  child_link c takes =
      let child = spawned_child p lim st stands c t takes.child in
      row_link p lim after after_stands c (joined_row child.row) (child_row c child.row takes child.there)
      ∙ ap (λ (l : Link). record l { joined = true }) (sym (row_link p lim st stands c child.row child.there))

  pub left_alone : LeavesAlone p st after mv (result_by_kind p lim st kind t).1
  left_alone =
      let rest = move_ends p lim st t kind may stands.number in
      record {
        own = own_row;
        rows = other_rows;
        links = other_links;
        joined_row = child_row;
        joined_link = child_link;
        tasks = rest.tasks;
        made = rest.made;
        as_many_links = ap length after_stands.links ∙ length-map after.tasks (λ (row : TaskRow). link_of_row row);
        results = rest.results;
        first_fault = rest.first_fault;
      }

-- in each state that a run comes to
pub moves_leave_alone : (p : Program) (lim : Bounds) (st : State) (m : Move) → IsWellFormed p → IsReached p lim st → MayMove st m
    → LeavesAlone p st (move_result p lim st m).0 m (move_result p lim st m).1
moves_leave_alone p lim st m well reached may = left_alone p lim well st m.kind m.task may (reached_stands p lim st well reached)
