-- What each step of a seat tells it.
use Rattle.std.specs.Prelude.{◌≡◌, ◌≢◌, ◌⊎◌, ◌+◌, ◌*◌, ◌<◌, ◌^◌, ◌++◌, ℕ, ℤ, false, List, [], ◌∷◌, Option, None, Some, if◌then◌else◌, nat_lt}
use Rattle.atomic_table.specs.Table.{Me}
use Rattle.twe_base.specs.Limits.{Bounds}
use Rattle.seg_journal.specs.declared.moves.Kind.TheVariants.{Run}
use Rattle.seg_meaning.specs.declared.frame.Frame.{Frame}
use Rattle.seg_meaning.specs.declared.stop.Stop.{Stop}
use Rattle.seg_meaning.specs.declared.stop.Stop.TheVariants as stops
use Rattle.seg_meaning.specs.Access.{Access, Agrees, after}
use Rattle.seg_meaning.specs.Segment.{segment}
use Rattle.machine_state.specs.declared.state.TaskRow.{TaskRow}
use Rattle.machine_state.specs.declared.state.TaskStatus.TheVariants as status
use Rattle.machine_state.specs.Changes.{asked_by}
use Rattle.machine_state.specs.Moves.{new_row, parent_of}
use Rattle.seg_journal.specs.declared.numbered.NumberedEntry.{NumberedEntry}
use Rattle.twe_program.specs.Program.{Program}
use Rattle.floor_laws.specs.declared.rule.view.HeldTurn.{HeldTurn}
use Rattle.floor_laws.specs.declared.rule.view.OpenSegment.{OpenSegment}
use Rattle.floor_laws.specs.declared.rule.view.Phase.{Phase}
use Rattle.floor_laws.specs.declared.rule.view.Phase.TheVariants.{Done, Running, Waits}
use Rattle.floor_laws.specs.declared.rule.view.TaskSlot.{TaskSlot}
use Rattle.floor_laws.specs.declared.rule.view.Touch.{Touch}
use Rattle.floor_laws.specs.declared.rule.view.Touch.TheVariants.{Read, Write}
use Rattle.floor_laws.specs.rule.Fitting.{MayRunFrom}
use Rattle.floor_laws.specs.rule.Rows.{phase_of, slot_of}
use Rattle.floor_laws.specs.rule.Steps.{IsPhaseFor, end_after, first_turn, row_after, with_row}
use Rattle.floor_laws.specs.rule.Touches.{IsAccessFrom, StandFor, touches_of}
use Rattle.floor_laws.specs.rule.LastTouches.{last_touched}
use Rattle.floor_laws.specs.declared.table.view.View.{View}
use Rattle.floor_laws.specs.table.FloorOf.{turn_in}
use Rattle.floor_laws.specs.table.Layout.{asked_of_clock, entries_of_clock, free_word, phase_of_word, value_of_word}

-- a seat: its view, and the slots that it has out, the latest first
abbrev pub Seat : Type 0
Seat = Me (Option TaskSlot) View

-- the turn of task t is this one from now on, or was given
abbrev pub with_turn : View → ℕ → Option HeldTurn → View
with_turn v t turn = record v { turns = record { task = t; turn = turn } ∷ v.turns }

-- Taking a turn: if the turn word was free, the seat has the turn and the task's slot; otherwise nothing changes. The seat did
-- not have it before. The phase word is the one of the task's row, and the frame of a done task has its value.
pub record TookTurn (before after : Seat) (t : ℕ) : Type 0 where
  pub had_none : turn_in before.0.turns t ≡ None
  pub turn : HeldTurn
  pub taken : turn.first ≡ false
  pub phase : turn.phase ≡ phase_of turn.row
  pub value : turn.row.status ≡ status.Done → turn.row.frame.value ≡ turn.row.value
  pub seat : after ≡ (with_turn before.0 t (Some turn), (t, Some (slot_of turn.row)) ∷ before.1)

-- the turn word was free and the seat has the turn, or the word was not free and nothing changed
abbrev pub TriedTurn : Seat → ℕ → ℕ → Seat → Type 0
TriedTurn before t found after = ((found ≡ free_word) × TookTurn before after t) ⊎ ((found ≢ free_word) × (after ≡ before))

-- Giving a turn: the seat may give it, and has the task's slot as its latest, with what the last entry left.
pub record MayGiveTurn (me : Seat) (t : ℕ) (turn : HeldTurn) (rest : List (ℕ × Option TaskSlot)) : Type 0 where
  pub has : turn_in me.0.turns t ≡ Some turn
  pub phase : turn.phase ≡ phase_of turn.row
  pub closed : (s : OpenSegment) → me.0.segment ≡ Some s → s.task ≢ t
  pub slot : me.1 ≡ (t, Some (slot_of turn.row)) ∷ rest

-- The seat has given the turn, and the slots that it has out beside the task's are left. If the task is done, it knows the value.
abbrev pub GaveTurn : Seat → ℕ → HeldTurn → List (ℕ × Option TaskSlot) → Seat → Type 0
GaveTurn before t turn rest after =
    after ≡ (record (with_turn before.0 t None) { done = with_row turn.row.status t turn.row before.0.done }, rest)

-- Storing a phase.
pub record MayStore (me : Seat) (t : ℕ) (turn : HeldTurn) (phase : Phase) : Type 0 where
  pub has : turn_in me.0.turns t ≡ Some turn
  pub fits : IsPhaseFor me.0.done turn phase

-- the seat knows that the phase word of the task says this phase
abbrev pub StoredPhase : Seat → ℕ → HeldTurn → Phase → Seat → Type 0
StoredPhase before t turn phase after = after ≡ (with_turn before.0 t (Some (record turn { phase = phase })), before.1)

-- Loading a phase: whoever finds `Done` knows the task's value.
pub record FoundDone (before after : Seat) (t : ℕ) : Type 0 where
  pub value : ℤ
  pub seat : after ≡ (record before.0 { done = record { task = t; value = value } ∷ before.0.done }, before.1)

-- Whoever has the turn finds the phase that it knows. The word fits 32 bits.
abbrev pub IsOwnPhase : Seat → ℕ → ℕ → Type 0
IsOwnPhase before t found = (turn : HeldTurn) → turn_in before.0.turns t ≡ Some turn → phase_of_word found ≡ turn.phase

-- A task waits for one with a higher number, which is one of the run.
abbrev pub WaitsAbove : Bounds → ℕ → ℕ → Type 0
WaitsAbove lim t found = (u : ℕ) → phase_of_word found ≡ Waits u → (t < u) × (u < lim.tasks)

-- the seat has loaded the phase word of task t: it learns the task's value if the word says `Done`, and else nothing
abbrev pub FoundPhase : Bounds → Seat → ℕ → ℕ → Seat → Type 0
FoundPhase lim before t found after =
    IsOwnPhase before t found × (found < 2 ^ 32) × WaitsAbove lim t found
    × (((phase_of_word found ≡ Done) × FoundDone before after t) ⊎ ((phase_of_word found ≢ Done) × (after ≡ before)))

-- Touching a cell.
pub record MayTouchCell (p : Program) (me : Seat) (t : ℕ) (access : Access) : Type 0 where
  pub turn : HeldTurn
  pub has : turn_in me.0.turns t ≡ Some turn
  pub ready : Frame
  pub may : MayRunFrom turn me.0.done ready
  pub made : IsAccessFrom p ready access
  pub own : (s : OpenSegment) → me.0.segment ≡ Some s → s.task ≡ t

-- the open segment of task t has touched one more cell, or is opened by its first touch
abbrev pub with_touch : View → ℕ → Touch → View
with_touch v t touch = record v { segment = Some (record { task = t; touches = touch ∷ touches_of v.segment }) }

-- if the open segment has touched the cell, this is the value of the last touch
abbrev pub IsLastTouch : Seat → ℕ → ℤ → Type 0
IsLastTouch me c value = (known : ℤ) → last_touched (touches_of me.0.segment) c ≡ Some known → value ≡ known

-- the word found fits 32 bits, and its value was read; a cell that the segment has touched has the value of the last touch
abbrev pub ReadCell : Seat → ℕ → ℕ → ℕ → Seat → Type 0
ReadCell before t c found after =
    (found < 2 ^ 32) × IsLastTouch before c (value_of_word found)
    × (after ≡ (with_touch before.0 t (Read c (value_of_word found)), before.1))

-- the value was written to the cell
abbrev pub WroteCell : Seat → ℕ → ℕ → ℤ → Seat → Type 0
WroteCell before t c value after = after ≡ (with_touch before.0 t (Write c value), before.1)

-- Drawing an entry.

-- The seat may draw an entry of task t whose segment left this frame and this stop: as a seat of the floor may.
pub record MayDraw (p : Program) (me : Seat) (t : ℕ) (turn : HeldTurn) (frame : Frame) (stop : Stop) : Type 0 where
  pub has : turn_in me.0.turns t ≡ Some turn
  pub ready : Frame
  pub may : MayRunFrom turn me.0.done ready
  pub running : turn.phase ≡ Running
  pub own : (s : OpenSegment) → me.0.segment ≡ Some s → s.task ≡ t
  pub accesses : List Access
  pub touches : StandFor p (touches_of me.0.segment) accesses
  pub means : (cells : List ℤ) → Agrees cells accesses
      → segment p ready cells ≡ record { frame = frame; cells = after cells accesses; accesses = accesses; stop = stop }

-- what the clock rises by: 1 for the entry, and 2 ^ 45 more if it asks for a task
abbrev pub clock_step : Stop → ℕ
clock_step stop = 1 + asked_by stop * 2 ^ 45

-- the entry, if the clock said this
abbrev pub entry_at : Bounds → ℕ → ℕ → Frame → Stop → NumberedEntry
entry_at lim clock t frame stop = record {
  number = entries_of_clock clock;
  entry = record { mv = record { kind = Run; task = t }; end = end_after lim (asked_of_clock clock) stop };
  prints = frame.prints;
}

-- the seat has the entry and the task's new row, and its segment is no longer open
abbrev pub drawn_view : Bounds → ℕ → View → ℕ → HeldTurn → Frame → Stop → View
drawn_view lim clock v t turn frame stop = record (with_turn v t
    (Some (record turn { row = row_after lim (asked_of_clock clock) turn.row frame stop }))) {
      part = v.part ++ entry_at lim clock t frame stop ∷ [];
      segment = None;
    }

-- beside that, it has the first turn of the task that was made, and that task's slot, which is empty
abbrev pub drawn_with : Seat → ℕ → TaskRow → Seat
drawn_with me child row = (with_turn me.0 child (Some (first_turn row)), (child, None) ∷ me.1)

-- The seat after it drew the entry, if the clock said this. If the segment stopped to make a task and the limit leaves room for
-- it, the seat has that task's first turn beside the entry.
abbrev pub drawn_seat : Bounds → ℕ → Seat → ℕ → HeldTurn → Frame → Stop → Seat
drawn_seat lim clock me t turn frame (stops.Make child args effects spawned future place) =
    let drawn : Seat = (drawn_view lim clock me.0 t turn frame (stops.Make child args effects spawned future place), me.1) in
    let number = asked_of_clock clock + 1 in
    if nat_lt number lim.tasks
    then drawn_with drawn number (new_row lim number (parent_of t spawned) child args effects)
    else drawn
drawn_seat lim clock me t turn frame (stops.Waits on) = (drawn_view lim clock me.0 t turn frame (stops.Waits on), me.1)
drawn_seat lim clock me t turn frame (stops.Joins on) = (drawn_view lim clock me.0 t turn frame (stops.Joins on), me.1)
drawn_seat lim clock me t turn frame (stops.Done value) = (drawn_view lim clock me.0 t turn frame (stops.Done value), me.1)
drawn_seat lim clock me t turn frame (stops.Fault kind place) =
    (drawn_view lim clock me.0 t turn frame (stops.Fault kind place), me.1)

-- the seat has drawn this entry, with what it found at the clock
abbrev pub DrewEntry : Bounds → Seat → ℕ → HeldTurn → Frame → Stop → ℕ → Seat → Type 0
DrewEntry lim before t turn frame stop found after = after ≡ drawn_seat lim found before t turn frame stop

-- the slot of task t is the latest that the seat has out
pub record IsLatest (me : Seat) (t : ℕ) : Type 0 where
  pub slot : Option TaskSlot
  pub rest : List (ℕ × Option TaskSlot)
  pub is : me.1 ≡ (t, slot) ∷ rest

-- Whatever entry the seat may draw of the task whose slot is its latest, it has drawn that one; there is one at most.
abbrev pub DrewOfLatest : Program → Bounds → Seat → ℕ → Seat → Type 0
DrewOfLatest p lim before found after =
    (t : ℕ) (turn : HeldTurn) (frame : Frame) (stop : Stop) → IsLatest before t → MayDraw p before t turn frame stop
    → DrewEntry lim before t turn frame stop found after

-- if one more task may be made, the seat had no turn of it
abbrev pub HadNoneNext : Bounds → Seat → ℕ → Type 0
HadNoneNext lim before found = asked_of_clock found + 1 < lim.tasks → turn_in before.0.turns (asked_of_clock found + 1) ≡ None

-- the seat has drawn the one entry that it might draw, and had no turn of the task that is made next
abbrev pub DrewOne : Program → Bounds → Seat → ℕ → Seat → Type 0
DrewOne p lim before found after = DrewOfLatest p lim before found after × HadNoneNext lim before found
