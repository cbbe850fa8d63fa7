-- The rule of the table.
use Rattle.std.specs.Prelude.{◌≡◌, ◌+◌, ◌-◌, ◌*◌, ◌++◌, ◌<◌, ◌^◌, ℕ, ℤ, Bool, true, false, List, [], ◌∷◌, length, Option, None, Some, count_by, slice_get}
use mathlib.Core.Option as core
use lib.ListN.{get_elem?}
use Rattle.twe_base.specs.Limits.{Bounds, IsWithin}
use Rattle.twe_program.specs.Program.{Program, cell_count}
use Rattle.twe_program.specs.WellFormed.{IsWellFormed}
use Rattle.isolation_laws.specs.soundness.KeepsEffects.{KeepsEffects}
use Rattle.machine_state.specs.declared.state.State.{State}
use Rattle.machine_state.specs.declared.state.TaskRow.{TaskRow}
use Rattle.machine_state.specs.Rows.{IsRow}
use Rattle.machine_state.specs.Runs.{Legal, state_after}
use Rattle.seg_journal.specs.declared.numbered.NumberedEntry.{NumberedEntry}
use Rattle.seg_journal.specs.Merging.{IsMergeOf, journal_of, prints_of}
use Rattle.floor_laws.specs.declared.rule.view.TaskSlot.{TaskSlot}
use Rattle.floor_laws.specs.rule.Rows.{slot_of}
use Rattle.floor_laws.specs.rule.Rule.{KeepsRule}
use Rattle.floor_laws.specs.rule.Steps.{phase_at_start}
use Rattle.floor_laws.specs.rule.Touches.{cell_at}
use Rattle.floor_laws.specs.declared.table.view.SeatKind.{SeatKind}
use Rattle.floor_laws.specs.declared.table.view.SeatKind.TheVariants.{Main, Other, Spent}
use Rattle.floor_laws.specs.declared.table.view.View.{View}
use Rattle.floor_laws.specs.table.FloorOf.{Table, floor_of, turn_in}
use Rattle.floor_laws.specs.table.Layout.{cell_place, clock_place, free_word, new_word, number_at, phase_place, turn_place, value_of_word, word_count, word_of_phase}

-- the seat has given all its turns, and has no segment open
pub record HasGivenAll (v : View) : Type 0 where
  pub turns : (t : ℕ) → turn_in v.turns t ≡ None
  pub segment : v.segment ≡ None

-- the kind of a seat that was split off and not joined
abbrev pub is_other_kind : SeatKind → Bool
is_other_kind Main = false
is_other_kind Other = true
is_other_kind Spent = false

-- the seat was split off, and is not joined yet
abbrev pub is_other : View → Bool
is_other v = is_other_kind v.kind

-- a seat that was joined to another has nothing left
pub record HasNothing (v : View) : Type 0 where
  pub given : HasGivenAll v
  pub part : v.part ≡ []

-- One seat is the main one. It knows how many others there are. Those that were joined to it have nothing left.
pub record SeatsFit (views : List View) : Type 0 where
  pub seat : ℕ
  pub view : View
  pub there : get_elem? views seat ≡ core.some view
  pub is_main : view.kind ≡ Main
  pub one_main : (i : ℕ) (v : View) → get_elem? views i ≡ core.some v → v.kind ≡ Main → i ≡ seat
  pub others : count_by is_other views ≡ view.out
  pub spent : (i : ℕ) (v : View) → get_elem? views i ≡ core.some v → v.kind ≡ Spent → HasNothing v

-- The program is accepted. The table has the words and slots of the program and the limits, each cell's word fits 32 bits,
-- and the floor that it shows keeps the rule of the floor, with some log.
pub record TableKeeps (p : Program) (lim : Bounds) (s : Table) : Type 0 where
  pub well : IsWellFormed p
  pub keeps : KeepsEffects p
  pub within : IsWithin lim.fuel lim.tasks
  pub words : length s.words ≡ word_count p lim
  pub slots : length s.homes ≡ lim.tasks
  pub cells : (c : ℕ) → c < cell_count p → number_at (get_elem? s.words (cell_place c)) < 2 ^ 32
  pub seats : SeatsFit s.views
  pub log : List NumberedEntry
  pub rule : KeepsRule p lim log (floor_of p s)

-- the view of a new seat
abbrev pub new_view : SeatKind → ℕ → List NumberedEntry → View
new_view kind worker part = record {
  worker = worker;
  kind = kind;
  split = 0;
  out = 0;
  part = part;
  turns = [];
  segment = None;
  done = [];
}

-- the view of the first seat, which is the main one, has the entries so far
abbrev pub first_view : List NumberedEntry → View
first_view log = new_view Main 0 log

-- a seat is split off, of the worker with the next number
abbrev pub left_view : View → View
left_view v = record v { split = v.split + 1; out = v.out + 1 }

-- the view of the seat that is split off: it has and knows nothing yet
abbrev pub right_view : View → View
right_view v = new_view Other (v.split + 1) []

-- two seats are joined: the first one has the entries and the facts of both, and the other one is left with none
abbrev pub joined_view : View → View → View
joined_view v w = record v { out = v.out - 1; part = v.part ++ w.part; done = v.done ++ w.done }

-- the view of a seat that was joined to the main one
abbrev pub spent_view : View
spent_view = new_view Spent 0 []

-- Starts and ends.

-- what the words and the slot of a task say when a floor starts
abbrev pub turn_word_of : Option TaskRow → ℕ
turn_word_of None = new_word
turn_word_of (Some row) = free_word

-- what lies in the slot of a task with this row when a floor starts: nothing if the task is not made yet
abbrev pub slot_of_row : Option TaskRow → Option TaskSlot
slot_of_row None = None
slot_of_row (Some row) = Some (slot_of row)

-- the word is that of this value
pub record IsWordOf (words : List ℕ) (place : ℕ) (value : ℤ) : Type 0 where
  pub word : ℕ
  pub there : get_elem? words place ≡ core.some word
  pub small : word < 2 ^ 32
  pub means : value_of_word word ≡ value

-- The words and slots show this state, after as many entries as the log has.
pub record IsLaidOut (p : Program) (lim : Bounds) (log : List NumberedEntry) (st : State) (words : List ℕ)
    (slots : List (Option TaskSlot)) : Type 0 where
  pub word_count : length words ≡ word_count p lim
  pub slot_count : length slots ≡ lim.tasks
  pub clock : get_elem? words clock_place ≡ core.some (st.asked * 2 ^ 45 + length log)
  pub cells : (c : ℕ) → c < cell_count p → IsWordOf words (cell_place c) (cell_at st.cells c)
  pub turns : (t : ℕ) → t < lim.tasks → get_elem? words (turn_place p t) ≡ core.some (turn_word_of (slice_get st.tasks t))
  pub phases : (t : ℕ) → t < lim.tasks
      → get_elem? words (phase_place p t) ≡ core.some (word_of_phase (phase_at_start (slice_get st.tasks t)))
  pub slots_are : (t : ℕ) → t < lim.tasks → get_elem? slots t ≡ core.some (slot_of_row (slice_get st.tasks t))

-- a table whose words and slots ended so shows this state: its cells' words have its cells' values, and the slot of each task
-- has the task's frame
pub record ShowsEnd (p : Program) (st : State) (words : List ℕ) (slots : List (Option TaskSlot)) : Type 0 where
  pub cells : (c : ℕ) → c < cell_count p → IsWordOf words (cell_place c) (cell_at st.cells c)
  pub slots_are : (t : ℕ) (row : TaskRow) → IsRow st t row → get_elem? slots t ≡ core.some (Some (slot_of row))

-- After the seats were joined to one that has this view, and the table was closed: the view's entries are the journal. It is
-- legal, and the table shows the state that it leads to.
pub record Ended (p : Program) (lim : Bounds) (v : View) (words : List ℕ) (slots : List (Option TaskSlot)) : Type 0 where
  pub log : List NumberedEntry
  pub legal : Legal p lim (journal_of log)
  pub merge : IsMergeOf (v.part ∷ []) log
  pub prints : (state_after p lim (journal_of log)).prints ≡ prints_of log
  pub shows : ShowsEnd p (state_after p lim (journal_of log)) words slots
