-- How the floor fits the state of the machine that its journal leads to. Each definition speaks of few parts of the floor.
use Rattle.std.specs.Prelude.{◌≡◌, ◌⊎◌, ◌<◌, ◌≤◌, ℕ, ℤ, pos, true, false, List, length, Option, Some, None}
use Rattle.twe_program.specs.Program.{Program}
use Rattle.seg_meaning.specs.declared.frame.Frame.{Frame}
use Rattle.seg_meaning.specs.Access.{Access, Agrees, after}
use Rattle.seg_meaning.specs.Giving.{given}
use Rattle.machine_state.specs.declared.state.State.{State}
use Rattle.machine_state.specs.declared.state.TaskRow.{TaskRow}
use Rattle.machine_state.specs.declared.state.TaskStatus.TheVariants as status
use Rattle.machine_state.specs.Changes.{IsDoneWith}
use Rattle.machine_state.specs.Rows.{HasStatus, IsRow, row_awaited}
use Rattle.floor_laws.specs.declared.rule.view.DoneFact.{DoneFact}
use Rattle.floor_laws.specs.declared.rule.view.HeldTurn.{HeldTurn}
use Rattle.floor_laws.specs.declared.rule.view.OpenSegment.{OpenSegment}
use Rattle.floor_laws.specs.declared.rule.view.Phase.{Phase}
use Rattle.floor_laws.specs.declared.rule.view.Phase.TheVariants.{Absent, Made, Running, Waits, Done, Faulted}
use Rattle.floor_laws.specs.declared.rule.view.TaskSlot.{TaskSlot}
use Rattle.floor_laws.specs.rule.Floors.{Floor, Home, Away, Empty, Holds, TurnWord, Free, Taken, New}
use Rattle.floor_laws.specs.rule.Rows.{phase_of, slot_of, unmarked}
use Rattle.floor_laws.specs.admission.admission_core.States.{IsAmong}
use Rattle.floor_laws.specs.rule.Touches.{IsAccessFrom, accesses_of, cell_at, is_written}

-- the turns of all seats, by seat and task
abbrev pub Turns : Type 0
Turns = ℕ → ℕ → Option HeldTurn

-- Turns.

-- task t was made
abbrev pub IsMade : State → ℕ → Type 0
IsMade st t = t < length st.tasks

-- no seat has the turn of task t
abbrev pub IsUnheld : Turns → ℕ → Type 0
IsUnheld held t = (i : ℕ) → held i t ≡ None

-- some seat has the turn of task t: as a first turn, or as one that it took
pub record IsHeld (held : Turns) (t : ℕ) : Type 0 where
  pub seat : ℕ
  pub turn : HeldTurn
  pub has : held seat t ≡ Some turn

-- each turn is at one seat at most
abbrev pub OneHolder : Turns → Type 0
OneHolder held = (i j t : ℕ) (turn other : HeldTurn) → held i t ≡ Some turn → held j t ≡ Some other → i ≡ j

-- the seat of this worker took the turn of task t
pub record IsTakenBy (held : Turns) (workers : ℕ → ℕ) (worker t : ℕ) : Type 0 where
  pub by : IsHeld held t
  pub taken : by.turn.first ≡ false
  pub worker_is : workers by.seat ≡ worker

-- task t is not made, or its maker has its first turn
pub record IsFirstHeld (held : Turns) (t : ℕ) : Type 0 where
  pub by : IsHeld held t
  pub first : by.turn.first ≡ true

-- The turn word of task t fits the turns of the seats: a free turn is at no seat and t is made, a taken one is at the seat of
-- the worker that the word names, and the turn of a new task is at no seat before t is made, or a first turn.
abbrev pub TurnFits : State → Turns → (ℕ → ℕ) → ℕ → TurnWord → Type 0
TurnFits st held workers t Free = IsMade st t × IsUnheld held t
TurnFits st held workers t (Taken worker) = IsTakenBy held workers worker t
TurnFits st held workers t New = ((length st.tasks ≤ t) × IsUnheld held t) ⊎ IsFirstHeld held t

-- Rows and slots.

-- what a seat knows of a task whose turn it has is its row, but for the mark that it was joined
pub record RowIs (st : State) (t : ℕ) (known : TaskRow) : Type 0 where
  pub row : TaskRow
  pub there : IsRow st t row
  pub same : unmarked row ≡ known

-- each seat knows the row of each task whose turn it has
abbrev pub RowsAreKnown : State → Turns → Type 0
RowsAreKnown st held = (i t : ℕ) (turn : HeldTurn) → held i t ≡ Some turn → RowIs st t turn.row

-- the slot is that of task t's row
pub record SlotIs (st : State) (t : ℕ) (slot : TaskSlot) : Type 0 where
  pub row : TaskRow
  pub there : IsRow st t row
  pub same : slot ≡ slot_of row

-- The slot of task t fits the turns: it is out while a seat has the turn, empty while t is not made, and else it holds what
-- t's row says.
abbrev pub HomeFits : State → Turns → ℕ → Home → Type 0
HomeFits st held t Away = IsHeld held t
HomeFits st held t Empty = length st.tasks ≤ t
HomeFits st held t (Holds slot) = IsUnheld held t × SlotIs st t slot

-- Phases.

-- task t is enabled, and its next operation is a wait for u
pub record PhaseWaitsAt (st : State) (t u : ℕ) : Type 0 where
  pub row : TaskRow
  pub there : IsRow st t row
  pub enabled : row.status ≡ status.Enabled
  pub on : row_awaited row.frame.next ≡ Some u

-- What the phase word of task t says holds in the state. `Absent` says nothing; `Made` and `Running` say that t was made, since
-- either may be old; the end of a task, or that it waits, is true as long as the word says it.
abbrev pub PhaseFits : State → ℕ → Phase → Type 0
PhaseFits st t Absent = Unit {0}
PhaseFits st t Made = IsMade st t
PhaseFits st t Running = IsMade st t
PhaseFits st t (Waits u) = PhaseWaitsAt st t u
PhaseFits st t Done = HasStatus st t status.Done
PhaseFits st t Faulted = HasStatus st t status.Faulted

-- the phase of a task whose turn is free is the one of its row
abbrev pub FreePhasesAreLast : State → (ℕ → TurnWord) → (ℕ → Phase) → Type 0
FreePhasesAreLast st turns phases = (t : ℕ) (row : TaskRow) → turns t ≡ Free → IsRow st t row → phases t ≡ phase_of row

-- a seat knows the phase of each task whose turn it has
abbrev pub PhasesAreKnown : Turns → (ℕ → Phase) → Type 0
PhasesAreKnown held phases = (i t : ℕ) (turn : HeldTurn) → held i t ≡ Some turn → phases t ≡ turn.phase

-- Open segments.

-- this is the value of the task that is awaited, if one is: it is known to be done with this value
abbrev pub KnowsAwaited : List DoneFact → Option ℕ → ℤ → Type 0
KnowsAwaited facts None value = value ≡ pos 0
KnowsAwaited facts (Some u) value = IsAmong (record { task = u; value = value }) facts

-- What a seat has to know to run the next segment of a task: it took the turn, the task is enabled and waits for nobody,
-- and its segment starts from this frame, which has taken the awaited value.
pub record MayRunFrom (turn : HeldTurn) (facts : List DoneFact) (ready : Frame) : Type 0 where
  pub taken : turn.first ≡ false
  pub enabled : turn.row.status ≡ status.Enabled
  pub value : ℤ
  pub known : KnowsAwaited facts (row_awaited turn.row.frame.next) value
  pub frame : ready ≡ given turn.row.frame value

-- The segment of this task is open at a seat with these turns and facts: the seat may run it, and it has made no accesses
-- but such as that segment makes.
pub record IsOpen (p : Program) (turns : ℕ → Option HeldTurn) (facts : List DoneFact) (task : ℕ)
    (accesses : List Access) : Type 0 where
  pub turn : HeldTurn
  pub has : turns task ≡ Some turn
  pub ready : Frame
  pub may : MayRunFrom turn facts ready
  pub made : (access : Access) → IsAmong access accesses → IsAccessFrom p ready access

-- each segment that a seat has open is one that the seat may run, with accesses that this segment makes
abbrev pub SegmentsAreOpen : Program → Turns → (ℕ → List DoneFact) → (ℕ → Option OpenSegment) → Type 0
SegmentsAreOpen p held facts segments =
    (i : ℕ) (s : OpenSegment) → segments i ≡ Some s → IsOpen p (held i) (facts i) s.task (accesses_of s.touches)

-- Cells. Here `cells` are those of the state, and `words` those of the floor.

-- each value that an open segment has read is the one that the cells of the state give it
abbrev pub ReadsHold : List ℤ → (ℕ → Option OpenSegment) → Type 0
ReadsHold cells segments = (i : ℕ) (s : OpenSegment) → segments i ≡ Some s → Agrees cells (accesses_of s.touches)

-- the word of each cell that an open segment has written has the value that it wrote last
abbrev pub WrittenHold : List ℤ → List ℤ → (ℕ → Option OpenSegment) → Type 0
WrittenHold cells words segments =
    (i : ℕ) (s : OpenSegment) (c : ℕ) → segments i ≡ Some s → is_written c (accesses_of s.touches) ≡ true
    → cell_at words c ≡ cell_at (after cells (accesses_of s.touches)) c

-- no open segment has written the cell
abbrev pub NobodyWrote : (ℕ → Option OpenSegment) → ℕ → Type 0
NobodyWrote segments c = (i : ℕ) (s : OpenSegment) → segments i ≡ Some s → is_written c (accesses_of s.touches) ≡ false

-- the word of every other cell has the value of the state
abbrev pub OthersHold : List ℤ → List ℤ → (ℕ → Option OpenSegment) → Type 0
OthersHold cells words segments = (c : ℕ) → NobodyWrote segments c → cell_at words c ≡ cell_at cells c

-- Facts.

-- each task that a seat knows to be done is done, with that value
abbrev pub FactsHold : State → (ℕ → List DoneFact) → Type 0
FactsHold st facts = (i : ℕ) (fact : DoneFact) → IsAmong fact (facts i) → IsDoneWith st fact.task fact.value

-- The floor fits the state.
pub record FloorFits (p : Program) (st : State) (f : Floor) : Type 0 where
  pub asked : f.asked ≡ st.asked
  pub one_holder : OneHolder f.held
  pub turns : (t : ℕ) → TurnFits st f.held f.workers t (f.turns t)
  pub rows : RowsAreKnown st f.held
  pub homes : (t : ℕ) → HomeFits st f.held t (f.homes t)
  pub phases : (t : ℕ) → PhaseFits st t (f.phases t)
  pub free_phases : FreePhasesAreLast st f.turns f.phases
  pub known_phases : PhasesAreKnown f.held f.phases
  pub segments : SegmentsAreOpen p f.held f.facts f.segments
  pub reads : ReadsHold st.cells f.segments
  pub size : length f.cells ≡ length st.cells
  pub written : WrittenHold st.cells f.cells f.segments
  pub others : OthersHold st.cells f.cells f.segments
  pub facts : FactsHold st f.facts

-- the frame of each done task has the task's value
abbrev pub DoneFramesHaveValues : State → Type 0
DoneFramesHaveValues st = (t : ℕ) (row : TaskRow) → IsRow st t row → row.status ≡ status.Done → row.frame.value ≡ row.value
