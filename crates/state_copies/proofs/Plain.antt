-- In each reached state nothing is reserved in the frames of tasks that have met no fault.
use Rattle.std.proofs.Common.{◌≡◌, ◌≢◌, ◌+◌, ◌-◌, ℕ, zero, suc, ℤ, Bool, true, false, List, [], ◌∷◌, ◌++◌, Option, None, Some, refl, sym, ap, ◌∙◌, subst, inl, inr}
use Rattle.std.specs.Prelude.{if◌then◌else◌, nat_lt, pos, slice_get, slice_set}
use Rattle.seg_journal.specs.declared.journal.End.{End}
use Rattle.seg_journal.specs.declared.journal.End.TheVariants as ends
use Rattle.seg_journal.specs.declared.journal.Entry.{Entry}
use Rattle.seg_journal.specs.declared.moves.Kind.{Kind}
use Rattle.seg_journal.specs.declared.moves.Kind.TheVariants.{Admit, Run}
use Rattle.twe_base.specs.Limits.{Bounds}
use Rattle.twe_base.specs.declared.fault.FaultKind.TheVariants.{TaskLimit}
use Rattle.wait_graph.specs.Link.{link_of}
use Rattle.twe_program.specs.Program.{Program}
use Rattle.seg_meaning.specs.declared.frame.Frame.{Frame}
use Rattle.seg_meaning.specs.declared.frame.Next.{Next}
use Rattle.seg_meaning.specs.declared.frame.Next.TheVariants.{Go, Get, Join, Closing, Ended}
use Rattle.seg_meaning.specs.declared.operation.Operation.TheVariants as operations
use Rattle.seg_meaning.specs.declared.stop.Stop.{Stop}
use Rattle.seg_meaning.specs.declared.stop.Stop.TheVariants as stops
use Rattle.seg_meaning.specs.Giving.{given_by}
use Rattle.seg_meaning.specs.Segment.{Stopped, closing_stop, flow_of, room_to_spawn, segment, stopped_by, waiting_stop}
use Rattle.seg_meaning.specs.Store.{Flow, goes, returns, fails}
use Rattle.seg_meaning.specs.Store as flows
use Rattle.machine_state.specs.declared.state.State.{State}
use Rattle.machine_state.specs.declared.state.TaskRow.{TaskRow}
use Rattle.machine_state.specs.declared.state.TaskStatus.TheVariants.{Made, Enabled, Faulted}
use Rattle.machine_state.specs.Legal.{MayTake}
use Rattle.machine_state.specs.Moves.{admitted, admitted_row, awaited_value, done_row, faulted_row, going_row, joined_child, joined_row, joined_rows, making_frame, new_row, parent_of, ran, ready_frame, result_by_kind, room_with, start_of, state_after_asking, state_after_fault, state_after_join, state_after_make, stop_result, stopped_frame}
use Rattle.machine_state.specs.Rows.{HasStatus, IsRow, row_awaited}
use Rattle.machine_state.specs.Runs.{IsReached, LegalFrom, replayed}
use Rattle.machine_state.proofs.links.LinksAgree.{status_of}
use Rattle.machine_state.proofs.lists.Places.{got_one, put_cases, set_cases}
use Rattle.state_copies.specs.Frames.{unreserved}

abbrev pub IsPlainRow : TaskRow → Type 0
IsPlainRow row = row.status ≢ Faulted → row.frame.out.room ≡ 0

abbrev pub ArePlain : List TaskRow → Type 0
ArePlain rows = (u : ℕ) (row : TaskRow) → slice_get rows u ≡ Some row → IsPlainRow row

-- Rows.

set_plain : (rows : List TaskRow) (t : ℕ) (new : TaskRow) → ArePlain rows → IsPlainRow new → ArePlain (slice_set rows t new)
set_plain rows t new plain own u row is =
    elim (set_cases rows t u new row is) [
      | inl same ↦ subst IsPlainRow same.1 own
      | inr other ↦ plain u row other.1
    ]

push_plain : (rows : List TaskRow) (new : TaskRow) → ArePlain rows → IsPlainRow new → ArePlain (rows ++ new ∷ [])
push_plain rows new plain own u row is =
    elim (put_cases rows new u row is) [
      | inl before ↦ plain u row before
      | inr last ↦ subst IsPlainRow last.1 own
    ]

joined_plain : (rows : List TaskRow) (child : ℕ) (found : Option TaskRow) → slice_get rows child ≡ found → ArePlain rows → ArePlain (joined_rows rows child found)
joined_plain rows child None is plain = plain
joined_plain rows child (Some row) is plain = set_plain rows child (joined_row row) plain (plain child row is)

join_plain : (st : State) (child : Option ℕ) → ArePlain st.tasks → ArePlain (state_after_join st child).tasks
join_plain st None plain = plain
join_plain st (Some child) plain = joined_plain st.tasks child (slice_get st.tasks child) refl plain

-- Stops.

-- what a segment that stopped so leaves reserved: room for the child that it spawns, and nothing else
abbrev LeavesPlain : Stop → Frame → Type 0
LeavesPlain (stops.Make child args effects spawned future place) frame = (frame.out.room ≡ room_to_spawn spawned 0) × (child.out.room ≡ 0)
LeavesPlain (stops.Waits on) frame = frame.out.room ≡ 0
LeavesPlain (stops.Joins on) frame = frame.out.room ≡ 0
LeavesPlain (stops.Done value) frame = frame.out.room ≡ 0
LeavesPlain (stops.Fault kind place) frame = Unit {0}

closes_plain : (items : List ℕ) (value : ℤ) (frame : Frame) → frame.out.room ≡ 0 → LeavesPlain (closing_stop items value) frame
closes_plain [] value frame plain = plain
closes_plain (child ∷ others) value frame plain = plain

waits_plain : (join : Bool) (on : ℕ) (frame : Frame) → frame.out.room ≡ 0 → LeavesPlain (waiting_stop join on) frame
waits_plain true on frame plain = plain
waits_plain false on frame plain = plain

flow_plain : (p : Program) (frame : Frame) (flow : Flow) → frame.out.room ≡ 0 → LeavesPlain (stopped_by p frame flow).stop (stopped_by p frame flow).frame
flow_plain p frame (goes s) plain = closes_plain frame.out.items (pos 0) (stopped_by p frame (goes s)).frame plain
flow_plain p frame (returns value s) plain = closes_plain frame.out.items value (stopped_by p frame (returns value s)).frame plain
flow_plain p frame (fails kind place s) plain = tt
flow_plain p frame (flows.stops (operations.Make future task args spawned place) positions s) plain = (ap (room_to_spawn spawned) plain, refl)
flow_plain p frame (flows.stops (operations.Wait future join into) positions s) plain =
    waits_plain join _ (stopped_by p frame (flows.stops (operations.Wait future join into) positions s)).frame plain

spawn_room : (spawned : Bool) (room : ℕ) → room ≡ room_to_spawn spawned 0 → room_with spawned room ≡ 0
spawn_room true room is = ap (λ (n : ℕ). n - 1) is
spawn_room false room is = is

stop_plain : (lim : Bounds) (st : State) (t : ℕ) (row : TaskRow) (frame : Frame) (stop : Stop) → LeavesPlain stop frame → ArePlain st.tasks → ArePlain (stop_result lim st t row frame stop).0.tasks
stop_plain lim st t row frame (stops.Make child args effects spawned future place) leaves plain = by_limit (nat_lt (st.asked + 1) lim.tasks) where
  by_limit : (b : Bool) → ArePlain (if◌then◌else◌ {A = State × End} b
      (state_after_make lim st t row frame future spawned child args effects, ends.Made (st.asked + 1))
      (state_after_fault (state_after_asking st) t row (stopped_frame frame) TaskLimit place, ends.Fault TaskLimit place)).0.tasks
  by_limit true =
      push_plain _ (new_row lim (st.asked + 1) (parent_of t spawned) child args effects)
      (set_plain st.tasks t (going_row row (making_frame future spawned (st.asked + 1) frame)) plain (λ well. spawn_room spawned frame.out.room leaves.0)) (λ well. leaves.1)
  by_limit false = set_plain st.tasks t (faulted_row row (stopped_frame frame)) plain (λ well. absurd (well refl))
stop_plain lim st t row frame (stops.Waits on) leaves plain = set_plain st.tasks t (going_row row frame) plain (λ well. leaves)
stop_plain lim st t row frame (stops.Joins on) leaves plain = set_plain st.tasks t (going_row row frame) plain (λ well. leaves)
stop_plain lim st t row frame (stops.Done value) leaves plain = set_plain st.tasks t (done_row row frame value) plain (λ well. leaves)
stop_plain lim st t row frame (stops.Fault kind place) leaves plain = set_plain st.tasks t (faulted_row row frame) plain (λ well. absurd (well refl))

-- Moves.

given_room : (next : Next) (frame : Frame) (value : ℤ) → (given_by next frame value).out.room ≡ frame.out.room
given_room Go frame value = refl
given_room (Get on into) frame value = refl
given_room (Join on into) frame value = refl
given_room (Closing on) frame value = refl
given_room Ended frame value = refl

-- the frame that the next segment of a task begins with
pub ready_room : (rows : List TaskRow) (frame : Frame) → (ready_frame rows frame).out.room ≡ frame.out.room
ready_room rows frame = given_room frame.next frame (awaited_value rows (row_awaited frame.next))

ran_plain : (p : Program) (lim : Bounds) (st : State) (t : ℕ) (found : Option TaskRow) → slice_get st.tasks t ≡ found → HasStatus st t Enabled → ArePlain st.tasks
    → ArePlain (ran p lim st t found).0.tasks
ran_plain p lim st t None is may plain = plain
ran_plain p lim st t (Some row) is may plain =
    let before = ready_frame st.tasks row.frame in
    let after : Stopped = segment p before st.cells in
    let status = status_of st t row Enabled may is in
    let room : before.out.room ≡ 0 = ready_room st.tasks row.frame ∙ plain t row is (λ bad. cc (bad, status)) in
    let st0 : State = record st { cells = after.cells } in
    let child = joined_child row.out (link_of st0.links t).waits in
    stop_plain lim (state_after_join st0 child) t row after.frame after.stop (flow_plain p before (flow_of p before before.body st.cells) room) (join_plain st0 child plain)

admitted_plain : (st : State) (t : ℕ) (found : Option TaskRow) → slice_get st.tasks t ≡ found → HasStatus st t Made → ArePlain st.tasks → ArePlain (admitted st t found).tasks
admitted_plain st t None is may plain = plain
admitted_plain st t (Some row) is may plain =
    let status = status_of st t row Made may is in
    set_plain st.tasks t (admitted_row row) plain (λ well. plain t row is (λ bad. cc (bad, status)))

taken_plain : (p : Program) (lim : Bounds) (st : State) (kind : Kind) (t : ℕ) → MayTake st kind t → ArePlain st.tasks → ArePlain (result_by_kind p lim st kind t).0.tasks
taken_plain p lim st Admit t may plain = admitted_plain st t (slice_get st.tasks t) refl may.0 plain
taken_plain p lim st Run t may plain = ran_plain p lim st t (slice_get st.tasks t) refl may.0 plain

run_plain : (p : Program) (lim : Bounds) (st : State) (entries : List Entry) → LegalFrom p lim st entries → ArePlain st.tasks → ArePlain (replayed p lim st entries).tasks
run_plain p lim st [] legal plain = plain
run_plain p lim st (entry ∷ entries) legal plain =
    run_plain p lim (result_by_kind p lim st entry.mv.kind entry.mv.task).0 entries legal.2 (taken_plain p lim st entry.mv.kind entry.mv.task legal.0 plain)

start_plain : (p : Program) (lim : Bounds) → ArePlain (start_of p lim).tasks
start_plain p lim zero row is = let same = got_one (slice_get (start_of p lim).tasks 0) refl is in subst IsPlainRow same (λ well. refl)
start_plain p lim (suc u) row is = absurd (cc (is))

pub reached_plain : (p : Program) (lim : Bounds) (st : State) → IsReached p lim st → ArePlain st.tasks
reached_plain p lim st reached =
    subst (λ (s : State). ArePlain s.tasks) (sym reached.same) (run_plain p lim (start_of p lim) reached.journal reached.legal (start_plain p lim))

-- so in the frame that the next segment of such a task begins with nothing is reserved
pub plainly_ready : (p : Program) (lim : Bounds) (st : State) (t : ℕ) (row : TaskRow) → IsReached p lim st → IsRow st t row → row.status ≢ Faulted
    → ready_frame st.tasks row.frame ≡ unreserved (ready_frame st.tasks row.frame)
plainly_ready p lim st t row reached there well =
    let frame = ready_frame st.tasks row.frame in
    let room : frame.out.room ≡ 0 = ready_room st.tasks row.frame ∙ reached_plain p lim st reached t row there well in
    λ i. record frame { out = record frame.out { room = room i } }
