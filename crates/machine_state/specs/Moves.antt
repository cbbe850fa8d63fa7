-- The state after a move, and the state that a run starts in.
use Rattle.std.specs.Prelude.{◌++◌, ◌+◌, ◌-◌, ◌==◌, ◌<◌, ◌≡◌, ◌^◌, ℕ, ℤ, pos, Bool, true, false, List, [], ◌∷◌, length, replicate, Option, None, Some, nat_lt, if◌then◌else◌, slice_get, slice_set}
use Rattle.std.specs.List.{list_any}
use Rattle.std.specs.Option.{ForSome}
use Rattle.twe_base.specs.declared.place.Place.{Place}
use Rattle.effect_sets.specs.declared.effects.Summary.{Summary}
use Rattle.twe_base.specs.declared.fault.FaultKind.{FaultKind}
use Rattle.twe_base.specs.declared.fault.FaultKind.TheVariants.{TaskLimit}
use Rattle.seg_journal.specs.declared.journal.End.{End}
use Rattle.seg_journal.specs.declared.journal.End.TheVariants.{Admitted}
use Rattle.seg_journal.specs.declared.journal.End.TheVariants as ends
use Rattle.seg_journal.specs.declared.moves.Kind.{Kind}
use Rattle.seg_journal.specs.declared.moves.Kind.TheVariants.{Admit, Run}
use Rattle.seg_journal.specs.declared.moves.Move.{Move}
use Rattle.twe_base.specs.Limits.{Bounds}
use Rattle.wait_graph.specs.Link.{link_of, new_link, with_wait, with_joined, with_done}
use Rattle.twe_program.specs.declared.program.CellDecl.{CellDecl}
use Rattle.twe_program.specs.Program.{Program, size_of}
use Rattle.seg_meaning.specs.declared.frame.Frame.{Frame}
use Rattle.seg_meaning.specs.declared.frame.Next.TheVariants.{Ended}
use Rattle.seg_meaning.specs.declared.stop.Stop.{Stop}
use Rattle.seg_meaning.specs.declared.stop.Stop.TheVariants as stops
use Rattle.seg_meaning.specs.Children.{Children}
use Rattle.seg_meaning.specs.Entry.{entry_frame, effects_at}
use Rattle.seg_meaning.specs.Giving.{given}
use Rattle.seg_meaning.specs.Segment.{HasRoomToSpawn, segment}
use Rattle.machine_state.specs.declared.state.FirstFault.{FirstFault}
use Rattle.machine_state.specs.declared.state.State.{State}
use Rattle.machine_state.specs.declared.state.TaskRow.{TaskRow}
use Rattle.machine_state.specs.declared.state.TaskStatus.{TaskStatus}
use Rattle.machine_state.specs.declared.state.TaskStatus.TheVariants.{Made, Enabled}
use Rattle.machine_state.specs.declared.state.TaskStatus.TheVariants as status
use Rattle.machine_state.specs.Rows.{row_awaited}

-- Admission.

-- the row of a task that was admitted
abbrev pub admitted_row : TaskRow → TaskRow
admitted_row row = record row { status = Enabled }

-- t becomes enabled, and nothing else changes
abbrev pub admitted : State → ℕ → Option TaskRow → State
admitted st t None = st
admitted st t (Some row) = record st { tasks = slice_set st.tasks t (admitted_row row) }

-- Making a task.

-- a spawned task has its maker as its parent and is enabled at once; a task of `executeLater` has no parent and waits
-- for its admission
abbrev pub parent_of : ℕ → Bool → Option ℕ
parent_of t true = Some t
parent_of t false = None

-- the status of a new task, by its parent: a task that has one is enabled at once
abbrev pub status_at_start : Option ℕ → TaskStatus
status_at_start None = Made
status_at_start (Some parent) = Enabled

-- the row of a new task of this number: its frame has the number and all of the fuel
abbrev pub new_row : Bounds → ℕ → Option ℕ → Frame → List ℤ → Summary → TaskRow
new_row lim number parent frame args effects = record {
  decl = frame.decl;
  args = args;
  effects = effects;
  frame = record frame { task = number; fuel = lim.fuel };
  parent = parent;
  joined = false;
  out = [];
  status = status_at_start parent;
  value = pos 0;
}

-- a spawned child is the last of the unjoined children
abbrev pub out_with : Bool → ℕ → List ℕ → List ℕ
out_with true child out = out ++ child ∷ []
out_with false child out = out

-- the child takes the room that was reserved for it
abbrev pub room_with : Bool → ℕ → ℕ
room_with true room = room - 1
room_with false room = room

-- the unjoined children of a task after it has made this one
abbrev pub children_with : Bool → ℕ → Children → Children
children_with spawned child out = record { items = out_with spawned child out.items; room = room_with spawned out.room }

-- the frame of a task after it has made this one: the future stands for the new task
abbrev pub making_frame : ℕ → Bool → ℕ → Frame → Frame
making_frame future spawned child frame = record frame {
  futures = slice_set frame.futures future (Some child);
  out = children_with spawned child frame.out;
}

-- The end of a segment.

-- a frame between segments: the numbers that the segment printed are taken out of it
abbrev pub frame_without_prints : Frame → Frame
frame_without_prints frame = record frame { prints = [] }

-- the frame of a task that has met a fault at a make: nothing is left to run
abbrev pub stopped_frame : Frame → Frame
stopped_frame frame = record frame { body = None; next = Ended }

-- the row of a task that is unfinished after its segment left this frame
abbrev pub going_row : TaskRow → Frame → TaskRow
going_row row frame = record row { frame = frame_without_prints frame; out = frame.out.items }

-- the row of a task that is done with this value
abbrev pub done_row : TaskRow → Frame → ℤ → TaskRow
done_row row frame value = record row {
  frame = frame_without_prints frame;
  out = frame.out.items;
  status = status.Done;
  value = value;
}

-- the row of a task that has met a fault
abbrev pub faulted_row : TaskRow → Frame → TaskRow
faulted_row row frame = record row { frame = frame_without_prints frame; out = frame.out.items; status = status.Faulted }

-- the first fault of a run stays the first
abbrev pub first_fault_of : Option FirstFault → ℕ → FaultKind → Place → Option FirstFault
first_fault_of (Some earlier) t kind place = Some earlier
first_fault_of None t kind place = Some (record { task = t; kind = kind; place = place })

-- the state after the frame of t was stored and t has this row: the numbers that the segment printed join those of
-- the run, and the links say what t waits for
abbrev pub state_after_storing : State → ℕ → Frame → TaskRow → State
state_after_storing st t frame row = record st {
  prints = st.prints ++ frame.prints;
  tasks = slice_set st.tasks t row;
  links = with_wait st.links t (row_awaited frame.next);
}

-- the state after a segment of t that left this frame and met a fault, which is the first of the run if there was none
abbrev pub state_after_fault : State → ℕ → TaskRow → Frame → FaultKind → Place → State
state_after_fault st t row frame kind place = record (state_after_storing st t frame (faulted_row row frame)) {
  first_fault = first_fault_of st.first_fault t kind place;
}

-- the state after the last segment of t, which left this frame and ended with this value
abbrev pub state_after_finish : State → ℕ → TaskRow → Frame → ℤ → State
state_after_finish st t row frame value =
    let after = state_after_storing st t frame (done_row row frame value) in record after { links = with_done after.links t }

-- one more task was asked for
abbrev pub state_after_asking : State → State
state_after_asking st = record st { asked = st.asked + 1 }

-- t has made a task, which has the next number
abbrev pub state_after_make : Bounds → State → ℕ → TaskRow → Frame → ℕ → Bool → Frame → List ℤ → Summary → State
state_after_make lim st t row frame future spawned child args effects =
    let number = st.asked + 1 in
    let maker = making_frame future spawned number frame in
    let after = state_after_storing (state_after_asking st) t maker (going_row row maker) in record after {
      tasks = after.tasks ++ new_row lim number (parent_of t spawned) child args effects ∷ [];
      links = after.links ++ new_link (parent_of t spawned) ∷ [];
    }

-- the state after a segment of t that left this frame and stopped in this way, and the end of the move. What a task
-- wrote and printed before a fault remains. A make whose number is not below the limit is a fault of its maker, and
-- makes no task.
abbrev pub stop_result : Bounds → State → ℕ → TaskRow → Frame → Stop → State × End
stop_result lim st t row frame (stops.Make child args effects spawned future place) =
    if nat_lt (st.asked + 1) lim.tasks
    then (state_after_make lim st t row frame future spawned child args effects, ends.Made (st.asked + 1))
    else (state_after_fault (state_after_asking st) t row (stopped_frame frame) TaskLimit place, ends.Fault TaskLimit place)
stop_result lim st t row frame (stops.Waits on) = (state_after_storing st t frame (going_row row frame), ends.Waits on)
stop_result lim st t row frame (stops.Joins on) = (state_after_storing st t frame (going_row row frame), ends.Joins on)
stop_result lim st t row frame (stops.Done value) = (state_after_finish st t row frame value, ends.Done value)
stop_result lim st t row frame (stops.Fault kind place) = (state_after_fault st t row frame kind place, ends.Fault kind place)

-- The start of a segment.

-- the child that the segment joined: the awaited task, if it is one of the unjoined children
abbrev pub joined_child : List ℕ → Option ℕ → Option ℕ
joined_child out None = None
joined_child out (Some on) = if list_any (λ child. child == on) out then Some on else None

-- the row of a task that was joined
abbrev pub joined_row : TaskRow → TaskRow
joined_row row = record row { joined = true }

-- the rows after the child of this row, if there is one, was marked as joined
abbrev pub joined_rows : List TaskRow → ℕ → Option TaskRow → List TaskRow
joined_rows rows child None = rows
joined_rows rows child (Some row) = slice_set rows child (joined_row row)

-- the state after the child, if there is one, was marked as joined
abbrev pub state_after_join : State → Option ℕ → State
state_after_join st None = st
state_after_join st (Some child) = record st {
  tasks = joined_rows st.tasks child (slice_get st.tasks child);
  links = with_joined st.links child;
}

-- the state after a segment of t that left this frame and stopped in this way, and the end of the move. The cells are
-- already those after the segment; all else but the frame of t is as before it. A child that the segment joined is
-- marked here.
abbrev pub settling_result : Bounds → State → ℕ → Option TaskRow → Frame → Stop → State × End
settling_result lim st t None frame stop = (st, Admitted)
settling_result lim st t (Some row) frame stop =
    stop_result lim (state_after_join st (joined_child row.out (link_of st.links t).waits)) t row frame stop

-- the value of the awaited task
abbrev pub value_of : Option TaskRow → ℤ
value_of None = pos 0
value_of (Some row) = row.value

-- the value of the task that is waited for; 0 if none is
abbrev pub awaited_value : List TaskRow → Option ℕ → ℤ
awaited_value rows None = pos 0
awaited_value rows (Some on) = value_of (slice_get rows on)

-- the frame that the next segment of a task starts from: if the task has waited, it takes the value
abbrev pub ready_frame : List TaskRow → Frame → Frame
ready_frame rows frame = given frame (awaited_value rows (row_awaited frame.next))

-- one segment of task t
abbrev pub ran : Program → Bounds → State → ℕ → Option TaskRow → State × End
ran p lim st t None = (st, Admitted)
ran p lim st t (Some row) =
    let after = segment p (ready_frame st.tasks row.frame) st.cells in
    settling_result lim (record st { cells = after.cells }) t (Some row) after.frame after.stop

-- the state after a move of t of this kind, and the end of the move
abbrev pub result_by_kind : Program → Bounds → State → Kind → ℕ → State × End
result_by_kind p lim st Admit t = (admitted st t (slice_get st.tasks t), Admitted)
result_by_kind p lim st Run t = ran p lim st t (slice_get st.tasks t)

-- the state after a legal move, and the end of the move
abbrev pub move_result : Program → Bounds → State → Move → State × End
move_result p lim st mv = result_by_kind p lim st mv.kind mv.task

-- the initial values of the cells, in the order of their numbers
abbrev pub initial_values : List CellDecl → List ℤ
initial_values [] = []
initial_values (cell ∷ cells) = replicate (size_of cell.dims) cell.init ++ initial_values cells

-- a run starts with task 0, a `main` that is made, and with each cell at its initial value
abbrev pub start_of : Program → Bounds → State
start_of p lim = record {
  cells = initial_values p.cells;
  tasks = new_row lim 0 None (entry_frame p p.main []) [] (effects_at p p.main []) ∷ [];
  links = new_link None ∷ [];
  prints = [];
  asked = 0;
  first_fault = None;
}

-- A segment of t may be settled if it left this frame and stopped in this way: there is a link for each row; a task
-- that may still be made gets the number of the next row; a task that t will wait for is there and has a higher number;
-- and the frame has room for a spawned child.
pub record MaySettle (lim : Bounds) (st : State) (t : ℕ) (frame : Frame) (stop : Stop) : Type 0 where
  pub there : t < length st.tasks
  pub linked : length st.links ≡ length st.tasks
  pub number : st.asked + 1 < lim.tasks → st.asked + 1 ≡ length st.tasks
  pub few : st.asked + 1 < 2 ^ 32
  pub above : ForSome (row_awaited frame.next) (λ on. (t < on) × (on < length st.tasks))
  pub room : HasRoomToSpawn stop frame
