-- The kinds of step: what the seat that takes one has to know, and the floor after it.
use Rattle.std.specs.Prelude.{◌≡◌, ◌≢◌, ◌⊎◌, ◌+◌, ◌++◌, ℕ, ℤ, true, List, [], ◌∷◌, length, Option, Some, None, if◌then◌else◌, nat_lt, slice_get, slice_set}
use Rattle.twe_base.specs.declared.fault.FaultKind.TheVariants.{TaskLimit}
use Rattle.twe_base.specs.Limits.{Bounds}
use Rattle.seg_journal.specs.declared.journal.End.{End}
use Rattle.seg_journal.specs.declared.journal.End.TheVariants as ends
use Rattle.seg_journal.specs.declared.moves.Kind.TheVariants.{Run}
use Rattle.twe_program.specs.Program.{Program}
use Rattle.seg_meaning.specs.declared.frame.Frame.{Frame}
use Rattle.seg_meaning.specs.declared.stop.Stop.{Stop}
use Rattle.seg_meaning.specs.declared.stop.Stop.TheVariants as stops
use Rattle.seg_meaning.specs.Access.{Access, Agrees, after}
use Rattle.seg_meaning.specs.Segment.{segment}
use Rattle.machine_state.specs.declared.state.State.{State}
use Rattle.machine_state.specs.declared.state.TaskRow.{TaskRow}
use Rattle.machine_state.specs.declared.state.TaskStatus.{TaskStatus}
use Rattle.machine_state.specs.declared.state.TaskStatus.TheVariants as status
use Rattle.machine_state.specs.Moves.{done_row, faulted_row, going_row, making_frame, new_row, parent_of, stopped_frame}
use Rattle.machine_state.specs.Changes.{asked_by}
use Rattle.machine_state.specs.Rows.{IsRow}
use Rattle.seg_journal.specs.declared.numbered.NumberedEntry.{NumberedEntry}
use Rattle.floor_laws.specs.declared.rule.view.DoneFact.{DoneFact}
use Rattle.floor_laws.specs.declared.rule.view.HeldTurn.{HeldTurn}
use Rattle.floor_laws.specs.declared.rule.view.OpenSegment.{OpenSegment}
use Rattle.floor_laws.specs.declared.rule.view.Phase.{Phase}
use Rattle.floor_laws.specs.declared.rule.view.Phase.TheVariants.{Absent, Running, Waits}
use Rattle.floor_laws.specs.declared.rule.view.Touch.{Touch}
use Rattle.floor_laws.specs.declared.rule.view.Touch.TheVariants.{Read, Write}
use Rattle.floor_laws.specs.rule.Floors.{Floor, Home, Away, Empty, Holds, TurnWord, Free, New, Taken, put, put_turn}
use Rattle.floor_laws.specs.rule.Fitting.{MayRunFrom}
use Rattle.floor_laws.specs.rule.Rows.{phase_of, slot_of}
use Rattle.floor_laws.specs.admission.admission_core.States.{IsAmong}
use Rattle.floor_laws.specs.rule.Touches.{IsAccessFrom, StandFor, touches_of}

-- Turns.

-- seat i has taken the turn of task t, whose slot is out
abbrev pub after_taking : Floor → ℕ → ℕ → HeldTurn → Floor
after_taking f i t turn = record f {
  turns = put f.turns t (Taken (f.workers i));
  homes = put f.homes t Away;
  held = put_turn f.held i t (Some turn);
}

-- Seat i may give the turn of task t, first or taken: the phase word is that of t's row, and no segment of t is open.
pub record MayGive (f : Floor) (i t : ℕ) (turn : HeldTurn) : Type 0 where
  pub has : f.held i t ≡ Some turn
  pub phase : turn.phase ≡ phase_of turn.row
  pub closed : (s : OpenSegment) → f.segments i ≡ Some s → s.task ≢ t

-- a seat that gives the turn of a done task knows its value from then on
abbrev pub with_row : TaskStatus → ℕ → TaskRow → List DoneFact → List DoneFact
with_row status.Done t row facts = record { task = t; value = row.value } ∷ facts
with_row status.Made t row facts = facts
with_row status.Enabled t row facts = facts
with_row status.Faulted t row facts = facts

-- the slot is back, and the turn free
abbrev pub after_giving : Floor → ℕ → ℕ → HeldTurn → Floor
after_giving f i t turn = record f {
  turns = put f.turns t Free;
  homes = put f.homes t (Holds (slot_of turn.row));
  held = put_turn f.held i t None;
  facts = put f.facts i (with_row turn.row.status t turn.row (f.facts i));
}

-- Phases.

-- The phase that the seat with this turn may store: the one of the task's row; or, if that is a wait for a task that the seat
-- knows to be done, `Running`.
abbrev pub IsPhaseFor : List DoneFact → HeldTurn → Phase → Type 0
IsPhaseFor facts turn phase =
    (phase ≡ phase_of turn.row)
    ⊎ ((u : ℕ) × (value : ℤ) × (phase_of turn.row ≡ Waits u) × IsAmong (record { task = u; value = value }) facts
    × (phase ≡ Running))

-- seat i, which has the turn of task t, may store this phase of it
pub record MayStorePhase (f : Floor) (i t : ℕ) (turn : HeldTurn) (phase : Phase) : Type 0 where
  pub has : f.held i t ≡ Some turn
  pub fits : IsPhaseFor (f.facts i) turn phase

-- the phase was stored, and seat i knows it
abbrev pub after_phase : Floor → ℕ → ℕ → HeldTurn → Phase → Floor
after_phase f i t turn phase = record f {
  phases = put f.phases t phase;
  held = put_turn f.held i t (Some (record turn { phase = phase }));
}

-- seat i has found the phase `Done` of task t, which has this value
abbrev pub after_finding_done : Floor → ℕ → ℕ → ℤ → Floor
after_finding_done f i t value = record f { facts = put f.facts i (record { task = t; value = value } ∷ f.facts i) }

-- Cells.

-- no segment of another task is open at seat i
abbrev pub IsOwn : Floor → ℕ → ℕ → Type 0
IsOwn f i t = (s : OpenSegment) → f.segments i ≡ Some s → s.task ≡ t

-- Seat i may make this access for task t: it may run the next segment of t, and that segment makes such an access over some
-- cells.
pub record MayTouch (p : Program) (f : Floor) (i t : ℕ) (access : Access) : Type 0 where
  pub turn : HeldTurn
  pub has : f.held i t ≡ Some turn
  pub ready : Frame
  pub may : MayRunFrom turn (f.facts i) ready
  pub made : IsAccessFrom p ready access
  pub own : IsOwn f i t

-- the segment of task t at seat i with one more touch
abbrev pub touched : Floor → ℕ → ℕ → Touch → ℕ → Option OpenSegment
touched f i t touch = put f.segments i (Some (record { task = t; touches = touch ∷ touches_of (f.segments i) }))

-- the cell was read, and its word had this value
abbrev pub after_load : Floor → ℕ → ℕ → ℕ → ℤ → Floor
after_load f i t cell value = record f { segments = touched f i t (Read cell value) }

-- the value was stored to the word of the cell
abbrev pub after_store : Floor → ℕ → ℕ → ℕ → ℤ → Floor
after_store f i t cell value = record f { cells = slice_set f.cells cell value; segments = touched f i t (Write cell value) }

-- Entries.

-- Seat i may draw an entry of task t whose segment left this frame and this stop. It may run that segment, the phase word
-- says `Running`, and the touches that are open stand for its accesses: over any cells that agree with these it leaves this
-- frame and this stop.
pub record MayCommit (p : Program) (f : Floor) (i t : ℕ) (turn : HeldTurn) (frame : Frame) (stop : Stop) : Type 0 where
  pub has : f.held i t ≡ Some turn
  pub ready : Frame
  pub may : MayRunFrom turn (f.facts i) ready
  pub running : turn.phase ≡ Running
  pub own : IsOwn f i t
  pub accesses : List Access
  pub touches : StandFor p (touches_of (f.segments i)) accesses
  pub means : (cells : List ℤ) → Agrees cells accesses
      → segment p ready cells ≡ record { frame = frame; cells = after cells accesses; accesses = accesses; stop = stop }

-- the task's row after its segment stopped so, if this many tasks were asked for before
abbrev pub row_after : Bounds → ℕ → TaskRow → Frame → Stop → TaskRow
row_after lim asked row frame (stops.Make child args effects spawned future place) =
    if nat_lt (asked + 1) lim.tasks
    then going_row row (making_frame future spawned (asked + 1) frame)
    else faulted_row row (stopped_frame frame)
row_after lim asked row frame (stops.Waits on) = going_row row frame
row_after lim asked row frame (stops.Joins on) = going_row row frame
row_after lim asked row frame (stops.Done value) = done_row row frame value
row_after lim asked row frame (stops.Fault kind place) = faulted_row row frame

-- how the entry ends
abbrev pub end_after : Bounds → ℕ → Stop → End
end_after lim asked (stops.Make child args effects spawned future place) =
    if nat_lt (asked + 1) lim.tasks then ends.Made (asked + 1) else ends.Fault TaskLimit place
end_after lim asked (stops.Waits on) = ends.Waits on
end_after lim asked (stops.Joins on) = ends.Joins on
end_after lim asked (stops.Done value) = ends.Done value
end_after lim asked (stops.Fault kind place) = ends.Fault kind place

-- the entry of the segment of task t that left this frame and this stop, with the number that the clock said
abbrev pub entry_drawn : Bounds → Floor → ℕ → Frame → Stop → NumberedEntry
entry_drawn lim f t frame stop = record {
  number = f.entries;
  entry = record { mv = record { kind = Run; task = t }; end = end_after lim f.asked stop };
  prints = frame.prints;
}

-- the first turn of a task that was just made
abbrev pub first_turn : TaskRow → HeldTurn
first_turn row = record { first = true; row = row; phase = Absent }

-- the entry was drawn, which makes no task
abbrev pub without_child : Bounds → Floor → ℕ → ℕ → HeldTurn → Frame → Stop → Floor
without_child lim f i t turn frame stop = record f {
  entries = f.entries + 1;
  asked = f.asked + asked_by stop;
  parts = put f.parts i (f.parts i ++ entry_drawn lim f t frame stop ∷ []);
  held = put_turn f.held i t (Some (record turn { row = row_after lim f.asked turn.row frame stop }));
  segments = put f.segments i None;
}

-- beside that, seat i has the first turn of the task that was made, and what its slot will hold
abbrev pub row_with_child : Floor → ℕ → ℕ → TaskRow → Floor
row_with_child f i child row = record f { homes = put f.homes child Away; held = put_turn f.held i child (Some (first_turn row)) }

-- The floor after the entry was drawn. If the segment stopped to make a task and the limit leaves room for it, the seat has the
-- first turn of that task.
abbrev pub after_entry : Bounds → Floor → ℕ → ℕ → HeldTurn → Frame → Stop → Floor
after_entry lim f i t turn frame (stops.Make child args effects spawned future place) =
    let drawn = without_child lim f i t turn frame (stops.Make child args effects spawned future place) in
    if nat_lt (f.asked + 1) lim.tasks
    then row_with_child drawn i (f.asked + 1) (new_row lim (f.asked + 1) (parent_of t spawned) child args effects)
    else drawn
after_entry lim f i t turn frame (stops.Waits on) = without_child lim f i t turn frame (stops.Waits on)
after_entry lim f i t turn frame (stops.Joins on) = without_child lim f i t turn frame (stops.Joins on)
after_entry lim f i t turn frame (stops.Done value) = without_child lim f i t turn frame (stops.Done value)
after_entry lim f i t turn frame (stops.Fault kind place) = without_child lim f i t turn frame (stops.Fault kind place)

-- Seats.

-- no turn is at the seat
abbrev pub HasNoTurn : Floor → ℕ → Type 0
HasNoTurn f i = (t : ℕ) → f.held i t ≡ None

-- a new seat, of this worker
abbrev pub after_split : Floor → ℕ → ℕ → Floor
after_split f i worker = record f { workers = put f.workers i worker }

-- seat j may be joined to seat i: it is another seat, has no turn, and no segment is open there
pub record MayJoin (f : Floor) (i j : ℕ) : Type 0 where
  pub other : j ≢ i
  pub no_turn : HasNoTurn f j
  pub closed : f.segments j ≡ None

-- seat i has the entries and the facts of seat j, which is left with none
abbrev pub after_join : Floor → ℕ → ℕ → Floor
after_join f i j = record f {
  parts = put (put f.parts i (f.parts i ++ f.parts j)) j [];
  facts = put (put f.facts i (f.facts i ++ f.facts j)) j [];
}

-- Quiet points.

-- no turn is at any seat, and no segment is open
pub record IsQuiet (f : Floor) : Type 0 where
  pub no_turns : (i : ℕ) → HasNoTurn f i
  pub closed : (i : ℕ) → f.segments i ≡ None

-- At a quiet point the floor shows the state: the words of the cells are its cells, and each task has a free turn, its last
-- phase, and its frame in its slot.
pub record ShowsState (st : State) (f : Floor) : Type 0 where
  pub cells : f.cells ≡ st.cells
  pub asked : f.asked ≡ st.asked
  pub turns : (t : ℕ) (row : TaskRow) → IsRow st t row → f.turns t ≡ Free
  pub phases : (t : ℕ) (row : TaskRow) → IsRow st t row → f.phases t ≡ phase_of row
  pub slots : (t : ℕ) (row : TaskRow) → IsRow st t row → f.homes t ≡ Holds (slot_of row)

-- Starts.

-- the turn word at a start, of a task with this row or of one that is not made yet
abbrev pub turn_at_start : Option TaskRow → TurnWord
turn_at_start None = New
turn_at_start (Some row) = Free

-- its phase word at a start
abbrev pub phase_at_start : Option TaskRow → Phase
phase_at_start None = Absent
phase_at_start (Some row) = phase_of row

-- its slot at a start
abbrev pub home_at_start : Option TaskRow → Home
home_at_start None = Empty
home_at_start (Some row) = Holds (slot_of row)

-- the floor that starts from this state, with the log that led to it at seat 0
abbrev pub floor_at : List NumberedEntry → State → Floor
floor_at log st = record {
  entries = length log;
  asked = st.asked;
  cells = st.cells;
  turns = λ t. turn_at_start (slice_get st.tasks t);
  phases = λ t. phase_at_start (slice_get st.tasks t);
  homes = λ t. home_at_start (slice_get st.tasks t);
  workers = λ i. 0;
  parts = put (λ i. []) 0 log;
  held = λ i t. None;
  segments = λ i. None;
  facts = λ i. [];
}
