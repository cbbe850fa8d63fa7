-- A move of alike states leads to alike states.
use Rattle.std.proofs.Common.{◌≡◌, ◌+◌, ◌++◌, ℕ, ℤ, Bool, true, false, List, [], ◌∷◌, Option, None, Some, map, nat_lt, refl, sym, ap, ◌∙◌, subst}
use Rattle.std.specs.Prelude.{if◌then◌else◌, slice_get, slice_set}
use Rattle.effect_sets.specs.declared.effects.Summary.{Summary}
use Rattle.twe_base.specs.Limits.{Bounds}
use Rattle.twe_base.specs.declared.fault.FaultKind.TheVariants.{TaskLimit}
use Rattle.twe_base.specs.declared.place.Place.{Place}
use Rattle.twe_program.specs.Program.{Program}
use Rattle.seg_journal.specs.declared.journal.End.{End}
use Rattle.seg_journal.specs.declared.journal.End.TheVariants as ends
use Rattle.seg_journal.specs.declared.moves.Kind.{Kind}
use Rattle.seg_journal.specs.declared.moves.Kind.TheVariants.{Admit, Run}
use Rattle.seg_journal.specs.declared.moves.Move.{Move}
use Rattle.wait_graph.specs.Link.{link_of, new_link, with_done, with_joined, with_wait}
use Rattle.seg_meaning.specs.declared.frame.Frame.{Frame}
use Rattle.seg_meaning.specs.declared.stop.Stop.{Stop}
use Rattle.seg_meaning.specs.declared.stop.Stop.TheVariants as stops
use Rattle.seg_meaning.specs.Giving.{given}
use Rattle.seg_meaning.specs.Segment.{Stopped, segment}
use Rattle.machine_state.specs.declared.state.State.{State}
use Rattle.machine_state.specs.declared.state.TaskRow.{TaskRow}
use Rattle.machine_state.specs.Legal.{MayMove, MayTake}
use Rattle.machine_state.specs.Moves.{admitted, admitted_row, awaited_value, done_row, faulted_row, first_fault_of, going_row, joined_child, making_frame, move_result, new_row, parent_of, ran, ready_frame, result_by_kind, settling_result, state_after_asking, state_after_fault, state_after_join, state_after_make, stop_result, stopped_frame}
use Rattle.machine_state.specs.Rows.{IsRow, is_done_row, is_done_status, row_awaited}
use Rattle.state_copies.specs.Lasting.{AreAlike, lasting, lasting_row}
use Rattle.all_runs.proofs.Alike.{row_alike}
use Rattle.state_copies.proofs.LastingRows.{added_once, joined_once, rows_once, set_once, value_once}

-- Taking the frames of done tasks out first changes nothing of what lasts.

lasting_once : (st : State) → lasting st ≡ lasting (lasting st)
lasting_once st = λ i. record st { tasks = rows_once st.tasks i }

join_once : (st : State) (child : Option ℕ) → lasting (state_after_join st child) ≡ lasting (state_after_join (lasting st) child)
join_once st None = lasting_once st
join_once st (Some child) = λ i. record st { tasks = joined_once st.tasks child i; links = with_joined st.links child }

made_once : (lim : Bounds) (st : State) (t : ℕ) (row : TaskRow) (frame : Frame) (future : ℕ) (spawned : Bool) (child : Frame) (args : List ℤ) (effects : Summary) (place : Place) (fits : Bool)
    → let after : State → State = λ (s : State). (if◌then◌else◌ {A = State × End} fits (state_after_make lim s t row frame future spawned child args effects, ends.Made (s.asked + 1))
    (state_after_fault (state_after_asking s) t row (stopped_frame frame) TaskLimit place, ends.Fault TaskLimit place)).0 in
    lasting (after st) ≡ lasting (after (lasting st))
made_once lim st t row frame future spawned child args effects place true =
    let maker = making_frame future spawned (st.asked + 1) frame in
    λ i. record st {
      asked = st.asked + 1;
      prints = st.prints ++ frame.prints;
      tasks = added_once st.tasks t (going_row row maker) (new_row lim (st.asked + 1) (parent_of t spawned) child args effects) i;
      links = with_wait st.links t (row_awaited frame.next) ++ new_link (parent_of t spawned) ∷ [];
    }
made_once lim st t row frame future spawned child args effects place false =
    λ i. record st {
      asked = st.asked + 1;
      prints = st.prints ++ frame.prints;
      tasks = set_once st.tasks t (faulted_row row (stopped_frame frame)) i;
      links = with_wait st.links t None;
      first_fault = first_fault_of st.first_fault t TaskLimit place;
    }

stop_once : (lim : Bounds) (st : State) (t : ℕ) (row : TaskRow) (frame : Frame) (stop : Stop)
    → lasting (stop_result lim st t row frame stop).0 ≡ lasting (stop_result lim (lasting st) t row frame stop).0
stop_once lim st t row frame (stops.Make child args effects spawned future place) =
    made_once lim st t row frame future spawned child args effects place (nat_lt (st.asked + 1) lim.tasks)
stop_once lim st t row frame (stops.Waits on) =
    λ i. record st {
      prints = st.prints ++ frame.prints;
      tasks = set_once st.tasks t (going_row row frame) i;
      links = with_wait st.links t (row_awaited frame.next);
    }
stop_once lim st t row frame (stops.Joins on) =
    λ i. record st {
      prints = st.prints ++ frame.prints;
      tasks = set_once st.tasks t (going_row row frame) i;
      links = with_wait st.links t (row_awaited frame.next);
    }
stop_once lim st t row frame (stops.Done value) =
    λ i. record st {
      prints = st.prints ++ frame.prints;
      tasks = set_once st.tasks t (done_row row frame value) i;
      links = with_done (with_wait st.links t (row_awaited frame.next)) t;
    }
stop_once lim st t row frame (stops.Fault kind place) =
    λ i. record st {
      prints = st.prints ++ frame.prints;
      tasks = set_once st.tasks t (faulted_row row frame) i;
      links = with_wait st.links t (row_awaited frame.next);
      first_fault = first_fault_of st.first_fault t kind place;
    }

-- Of alike states.

stop_alike : (lim : Bounds) (st other : State) (t : ℕ) (row : TaskRow) (frame : Frame) (stop : Stop) → AreAlike st other
    → AreAlike (stop_result lim st t row frame stop).0 (stop_result lim other t row frame stop).0
stop_alike lim st other t row frame stop alike =
    stop_once lim st t row frame stop
    ∙ (ap (λ (s : State). lasting (stop_result lim s t row frame stop).0) alike ∙ sym (stop_once lim other t row frame stop))

join_alike : (st other : State) (child : Option ℕ) → AreAlike st other → AreAlike (state_after_join st child) (state_after_join other child)
join_alike st other child alike =
    join_once st child ∙ (ap (λ (s : State). lasting (state_after_join s child)) alike ∙ sym (join_once other child))

awaited_once : (rows : List TaskRow) (on : Option ℕ) → awaited_value rows on ≡ awaited_value (map lasting_row rows) on
awaited_once rows None = refl
awaited_once rows (Some on) = value_once rows on

ready_alike : (st other : State) (frame : Frame) → AreAlike st other → ready_frame st.tasks frame ≡ ready_frame other.tasks frame
ready_alike st other frame alike =
    let on = row_awaited frame.next in
    ap (given frame) (awaited_once st.tasks on ∙ (ap (λ (s : State). awaited_value s.tasks on) alike ∙ sym (awaited_once other.tasks on)))

-- what a segment of t that left this makes of a state
settled : Bounds → State → ℕ → TaskRow → Stopped → State
settled lim st t row left = (settling_result lim (record st { cells = left.cells }) t (Some row) left.frame left.stop).0

settled_alike : (lim : Bounds) (st other : State) (t : ℕ) (row : TaskRow) (left : Stopped) → AreAlike st other → AreAlike (settled lim st t row left) (settled lim other t row left)
unfolding settled
settled_alike lim st other t row left alike =
    let a : State = record st { cells = left.cells } in
    let b : State = record other { cells = left.cells } in
    let both : AreAlike a b = λ i. record (alike i) { cells = left.cells } in
    let waits = joined_child row.out (link_of st.links t).waits in
    let child : waits ≡ joined_child row.out (link_of other.links t).waits = ap (λ (s : State). joined_child row.out (link_of s.links t).waits) alike in
    stop_alike lim (state_after_join a waits) (state_after_join b (joined_child row.out (link_of other.links t).waits)) t row left.frame left.stop
    (join_alike a b waits both ∙ ap (λ (c : Option ℕ). lasting (state_after_join b c)) child)

ran_alike : (p : Program) (lim : Bounds) (st other : State) (t : ℕ) (row : TaskRow) → AreAlike st other → AreAlike (ran p lim st t (Some row)).0 (ran p lim other t (Some row)).0
unfolding settled
ran_alike p lim st other t row alike =
    let left : Stopped = segment p (ready_frame st.tasks row.frame) st.cells in
    let also : Stopped = segment p (ready_frame other.tasks row.frame) other.cells in
    let same : left ≡ also = λ i. segment p (ready_alike st other row.frame alike i) (alike i).cells in
    settled_alike lim st other t row left alike ∙ ap (λ (s : Stopped). lasting (settled lim other t row s)) same

admitted_alike : (st other : State) (t : ℕ) (row : TaskRow) → AreAlike st other → AreAlike (admitted st t (Some row)) (admitted other t (Some row))
admitted_alike st other t row alike =
    (λ i. record st { tasks = set_once st.tasks t (admitted_row row) i })
    ∙ ((λ i. record (alike i) { tasks = map lasting_row (slice_set (alike i).tasks t (admitted_row row)) })
    ∙ sym (λ i. record other { tasks = set_once other.tasks t (admitted_row row) i }))

taken_alike : (p : Program) (lim : Bounds) (st other : State) (kind : Kind) (t : ℕ) → AreAlike st other → MayTake st kind t
    → AreAlike (result_by_kind p lim st kind t).0 (result_by_kind p lim other kind t).0
taken_alike p lim st other Admit t alike may =
    let row = may.0.0 in
    let there : IsRow st t row = may.0.1 in
    let undone : is_done_row row ≡ false = ap is_done_status may.0.2 in
    let here : IsRow other t row = row_alike st other t row alike there undone in
    subst (λ (found : Option TaskRow). AreAlike (admitted st t found) (admitted other t (slice_get other.tasks t))) (sym there)
    (subst (λ (found : Option TaskRow). AreAlike (admitted st t (Some row)) (admitted other t found)) (sym here) (admitted_alike st other t row alike))
taken_alike p lim st other Run t alike may =
    let row = may.0.0 in
    let there : IsRow st t row = may.0.1 in
    let undone : is_done_row row ≡ false = ap is_done_status may.0.2 in
    let here : IsRow other t row = row_alike st other t row alike there undone in
    subst (λ (found : Option TaskRow). AreAlike (ran p lim st t found).0 (ran p lim other t (slice_get other.tasks t)).0) (sym there)
    (subst (λ (found : Option TaskRow). AreAlike (ran p lim st t (Some row)).0 (ran p lim other t found).0) (sym here) (ran_alike p lim st other t row alike))

pub move_alike : (p : Program) (lim : Bounds) (st other : State) (mv : Move) → AreAlike st other → MayMove st mv
    → AreAlike (move_result p lim st mv).0 (move_result p lim other mv).0
move_alike p lim st other mv alike may = taken_alike p lim st other mv.kind mv.task alike may
