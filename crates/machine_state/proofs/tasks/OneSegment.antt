-- A segment that was carried out with its frame out of its row, and was settled then, is a move.
use Rattle.std.proofs.Common.{◌≡◌, ◌++◌, ◌+◌, ℕ, ℤ, zero, suc, List, [], ◌∷◌, length, Option, None, Some, refl, sym, ap, ◌∙◌, subst, nat_lt, arith}
use Rattle.std.specs.Prelude.{if◌then◌else◌, slice_get, slice_set}
use Rattle.std.proofs.Math.ListN.{length-set}
use Rattle.twe_base.specs.Limits.{Bounds}
use Rattle.twe_base.specs.declared.fault.FaultKind.TheVariants.{TaskLimit}
use Rattle.seg_journal.specs.declared.journal.End.{End}
use Rattle.seg_journal.specs.declared.journal.End.TheVariants as ends
use Rattle.wait_graph.specs.Link.{link_of, new_link, with_done, with_joined, with_wait}
use Rattle.twe_program.specs.Program.{Program}
use Rattle.seg_meaning.specs.declared.frame.Frame.{Frame}
use Rattle.seg_meaning.specs.declared.stop.Stop.{Stop}
use Rattle.seg_meaning.specs.declared.stop.Stop.TheVariants as stops
use Rattle.seg_meaning.specs.Segment.{IsSegment}
use Rattle.machine_state.specs.declared.state.State.{State}
use Rattle.machine_state.specs.declared.state.TaskRow.{TaskRow}
use Rattle.machine_state.specs.Moves.{MaySettle, done_row, faulted_row, first_fault_of, going_row, state_after_join, joined_child, joined_row, joined_rows, making_frame, new_row, parent_of, ran, ready_frame, settling_result, stop_result, stopped_frame}
use Rattle.machine_state.specs.Rows.{row_awaited}
use Rattle.machine_state.specs.FramesOut.{without_frame}
use Rattle.machine_state.specs.inner.Settling.{SettlesAfter}
use Rattle.machine_state.proofs.tasks.Ended.{set_again}
use Rattle.machine_state.proofs.lists.Places.{set_same}

-- the join of a child that is not the first
joined_after : (row : TaskRow) (rows : List TaskRow) (child : ℕ) (found : Option TaskRow) → joined_rows (row ∷ rows) (suc child) found ≡ row ∷ joined_rows rows child found
joined_after row rows child None = refl
joined_after row rows child (Some r) = refl

-- the row that is put in its place in the end is all that a place has
put_back : (rows : List TaskRow) (t child : ℕ) (left row : TaskRow)
    → slice_set (joined_rows (slice_set rows t left) child (slice_get (slice_set rows t left) child)) t row ≡ slice_set (joined_rows rows child (slice_get rows child)) t row
put_back [] t child left row = refl
put_back (r ∷ rows) zero zero left row = refl
put_back (r ∷ rows) zero (suc child) left row =
    ap (λ (l : List TaskRow). slice_set l 0 row) (joined_after left rows child (slice_get rows child))
    ∙ sym (ap (λ (l : List TaskRow). slice_set l 0 row) (joined_after r rows child (slice_get rows child)))
put_back (r ∷ rows) (suc t) zero left row = ap (λ (l : List TaskRow). joined_row r ∷ l) (set_again rows t left row)
put_back (r ∷ rows) (suc t) (suc child) left row =
    ap (λ (l : List TaskRow). slice_set l (suc t) row) (joined_after r (slice_set rows t left) child (slice_get (slice_set rows t left) child))
    ∙ (ap (λ (l : List TaskRow). r ∷ l) (put_back rows t child left row)
    ∙ sym (ap (λ (l : List TaskRow). slice_set l (suc t) row) (joined_after r rows child (slice_get rows child))))

-- a stop asks nothing of the row that stood in the place of its task, but what is kept of it
stopped_same : (lim : Bounds) (st : State) (rows others : List TaskRow) (t : ℕ) (row : TaskRow) (frame : Frame) (stop : Stop)
    → ((r : TaskRow) → slice_set rows t r ≡ slice_set others t r)
    → stop_result lim (record st { tasks = rows }) t (without_frame row) frame stop ≡ stop_result lim (record st { tasks = others }) t row frame stop
stopped_same lim st rows others t row frame (stops.Make child args effects spawned future place) same =
    let maker = making_frame future spawned (st.asked + 1) frame in
    λ i.
    if nat_lt (st.asked + 1) lim.tasks then (
      record st {
        asked = st.asked + 1;
        prints = st.prints ++ frame.prints;
        tasks = same (going_row row maker) i ++ new_row lim (st.asked + 1) (parent_of t spawned) child args effects ∷ [];
        links = with_wait st.links t (row_awaited frame.next) ++ new_link (parent_of t spawned) ∷ [];
      },
      ends.Made (st.asked + 1),
    ) else (
      record st {
        asked = st.asked + 1;
        prints = st.prints ++ frame.prints;
        tasks = same (faulted_row row (stopped_frame frame)) i;
        links = with_wait st.links t None;
        first_fault = first_fault_of st.first_fault t TaskLimit place;
      },
      ends.Fault TaskLimit place,
    )
stopped_same lim st rows others t row frame (stops.Waits on) same =
    λ i. (
      record st {
        prints = st.prints ++ frame.prints;
        tasks = same (going_row row frame) i;
        links = with_wait st.links t (row_awaited frame.next);
      },
      ends.Waits on,
    )
stopped_same lim st rows others t row frame (stops.Joins on) same =
    λ i. (
      record st {
        prints = st.prints ++ frame.prints;
        tasks = same (going_row row frame) i;
        links = with_wait st.links t (row_awaited frame.next);
      },
      ends.Joins on,
    )
stopped_same lim st rows others t row frame (stops.Done value) same =
    λ i. (
      record st {
        prints = st.prints ++ frame.prints;
        tasks = same (done_row row frame value) i;
        links = with_done (with_wait st.links t (row_awaited frame.next)) t;
      },
      ends.Done value,
    )
stopped_same lim st rows others t row frame (stops.Fault kind place) same =
    λ i. (
      record st {
        prints = st.prints ++ frame.prints;
        tasks = same (faulted_row row frame) i;
        links = with_wait st.links t (row_awaited frame.next);
        first_fault = first_fault_of st.first_fault t kind place;
      },
      ends.Fault kind place,
    )

-- so a row may be without its frame meanwhile
settled_again : (lim : Bounds) (st : State) (t : ℕ) (row : TaskRow) (frame : Frame) (stop : Stop) (child : Option ℕ)
    → stop_result lim (state_after_join (record st { tasks = slice_set st.tasks t (without_frame row) }) child) t (without_frame row) frame stop ≡ stop_result lim (state_after_join st child) t row frame stop
settled_again lim st t row frame stop None = stopped_same lim st (slice_set st.tasks t (without_frame row)) st.tasks t row frame stop (set_again st.tasks t (without_frame row))
settled_again lim st t row frame stop (Some child) =
    let out = slice_set st.tasks t (without_frame row) in
    stopped_same lim (record st { links = with_joined st.links child }) (joined_rows out child (slice_get out child)) (joined_rows st.tasks child (slice_get st.tasks child)) t row frame stop
    (put_back st.tasks t child (without_frame row))

-- what a segment makes of the state, with its frame out of its row
pub run_settled : (p : Program) (lim : Bounds) (st : State) (t : ℕ) (row : TaskRow) (rows : List TaskRow) (frame after : Frame) (stop : Stop) (cells : List ℤ) (moved : State × End)
    → slice_get st.tasks t ≡ Some row → rows ≡ slice_set st.tasks t (without_frame row) → frame ≡ ready_frame st.tasks row.frame
    → IsSegment p frame st.cells stop after cells
    → moved ≡ settling_result lim (record st { cells = cells; tasks = rows }) t (slice_get rows t) after stop
    → moved ≡ ran p lim st t (slice_get st.tasks t)
run_settled p lim st t row rows frame after stop cells moved here out taken carried settles =
    let left = slice_set st.tasks t (without_frame row) in
    let is : IsSegment p (ready_frame st.tasks row.frame) st.cells stop after cells = subst (λ (f : Frame). IsSegment p f st.cells stop after cells) taken carried in
    settles
    ∙ (ap (λ (l : List TaskRow). settling_result lim (record st { cells = cells; tasks = l }) t (slice_get l t) after stop) out
    ∙ (ap (λ (found : Option TaskRow). settling_result lim (record st { cells = cells; tasks = left }) t found after stop) (set_same st.tasks t row (without_frame row) here)
    ∙ (settled_again lim (record st { cells = cells }) t row after stop (joined_child row.out (link_of st.links t).waits)
    ∙ (sym (λ i. settling_result lim (record st { cells = is.1 i }) t (Some row) (is.0 i) (is.2 i))
    ∙ sym (ap (ran p lim st t) here)))))

-- and it may be settled so
pub run_settles : (p : Program) (lim : Bounds) (st : State) (t : ℕ) (row : TaskRow) (rows : List TaskRow) (frame after : Frame) (stop : Stop) (cells : List ℤ)
    → slice_get st.tasks t ≡ Some row → rows ≡ slice_set st.tasks t (without_frame row) → frame ≡ ready_frame st.tasks row.frame
    → IsSegment p frame st.cells stop after cells → SettlesAfter p lim st t
    → MaySettle lim (record st { cells = cells; tasks = rows }) t after stop
run_settles p lim st t row rows frame after stop cells here out taken carried settles =
    let is : IsSegment p (ready_frame st.tasks row.frame) st.cells stop after cells = subst (λ (f : Frame). IsSegment p f st.cells stop after cells) taken carried in
    let s : MaySettle lim st t after stop = subst (λ (at : Frame × Stop). MaySettle lim st t at.0 at.1) (λ i. (is.0 i, is.2 i)) (settles row here) in
    let count : length rows ≡ length st.tasks = ap length out ∙ simp length-set in
    record {
      there = omega (arith, s.there, count);
      linked = s.linked ∙ sym count;
      number = λ below. s.number below ∙ sym count;
      few = s.few;
      above = λ on waits. let a = s.above on waits in (a.0, omega (arith, a.1, count));
      room = s.room;
    }
