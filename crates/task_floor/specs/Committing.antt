-- How a stand draws an entry beside the nodes: what it needs, and what it leaves.
use Rattle.std.specs.Prelude.{◌≡◌, ◌≢◌, ◌+◌, ℕ, ◌∷◌, Option, None, Some}
use Rattle.std.specs.Option.{ForSome}
use Rattle.twe_base.specs.Limits.{Bounds}
use Rattle.twe_program.specs.Program.{Program}
use Rattle.seg_journal.specs.declared.journal.End.{End}
use Rattle.seg_meaning.specs.declared.frame.Frame.{Frame}
use Rattle.seg_meaning.specs.declared.stop.Stop.{Stop}
use Rattle.machine_state.specs.declared.state.TaskRow.{TaskRow}
use Rattle.floor_laws.specs.declared.rule.view.HeldTurn.{HeldTurn}
use Rattle.floor_laws.specs.declared.rule.view.TaskSlot.{TaskSlot}
use Rattle.floor_laws.specs.rule.Rows.{slot_of}
use Rattle.floor_laws.specs.rule.Steps.{end_after, first_turn, row_after}
use Rattle.floor_laws.specs.table.FloorOf.{turn_in}
use Rattle.floor_laws.specs.table.Layout.{asked_of_clock, entries_of_clock}
use Rattle.floor_laws.specs.table.Tells.{drawn_view, entry_at, with_turn}
use Rattle.task_floor.specs.steps.Committing.{Log, MayCommitEntry, child_row, with_entry}
use Rattle.floor_laws.specs.admission.admission_core.States.{IsAmong, Record}
use Rattle.floor_laws.specs.rule.nodes.TurnSteps.{HasPlacedChildren}
use Rattle.floor_laws.specs.declared.table.nodes.slot.TreeSlot.TheVariants as kinds
use Rattle.floor_laws.specs.table.nodes.EntrySeats.{admission_at, admitted_view}
use Rattle.floor_laws.specs.table.nodes.FloorSeats.{floor_seat}
use Rattle.floor_laws.specs.table.nodes.Seats.{TreeSeat, turns_seen}
use Rattle.floor_laws.specs.table.nodes.TurnSeats.{given_tree_view}
use Rattle.task_floor.specs.Leaving.{stored_view}

-- Entries of segments.

-- The seat may draw the entry of task t as a seat of the floor may, and has no first turn of a child of the task.
pub record MayCommitBeside (p : Program) (me : TreeSeat) (t : ℕ) (slot : TaskSlot) (stop : Stop) (turn : HeldTurn) : Type 0 where
  pub floor : MayCommitEntry p (floor_seat me) t slot stop turn
  pub placed : HasPlacedChildren (turns_seen me.0) 0 t

-- the seat has the first turn of a task that was made, and the task's slot, which is empty
abbrev pub with_first : TreeSeat → ℕ → TaskRow → TreeSeat
with_first me child row =
    (record me.0 { floor = with_turn me.0.floor child (Some (first_turn row)) }, (child, kinds.Task None) ∷ me.1)

-- the seat has had the first turn: it has stored the task's phase and given the turn
abbrev pub with_first_given : TreeSeat → ℕ → TaskRow → TreeSeat
with_first_given me child row =
    (given_tree_view (stored_view (with_first me child row).0 child (first_turn row)) child (first_turn row), me.1)

-- a spawned task is left with the seat, since its records are still to be placed; any other one is given at once
abbrev pub made_in : Option ℕ → TreeSeat → ℕ → TaskRow → TreeSeat
made_in None me child row = with_first_given me child row
made_in (Some parent) me child row = with_first me child row

-- the seat after the task with this row was made, if the entry made one
abbrev pub with_made : TreeSeat → ℕ → Option TaskRow → TreeSeat
with_made me child None = me
with_made me child (Some row) = made_in row.parent me child row

-- what the slot of a spawned task will hold
abbrev pub spawned_slot : Option ℕ → TaskRow → Option TaskSlot
spawned_slot None row = None
spawned_slot (Some parent) row = Some (slot_of row)

-- the same of a task that an entry made, if it made one
abbrev pub left_to_place : Option TaskRow → Option TaskSlot
left_to_place None = None
left_to_place (Some row) = spawned_slot row.parent row

-- The entry of task t was drawn when the clock said this. It has the clock's number and ends as the machine's move does; the
-- log and what the seat knows have it. The slot is that of the task's new row. The segment is not open any more. The seat had no
-- turn of a task that was made, and no record of it among those that it has placed. If that task was spawned, the seat has its
-- first turn, and what its slot will hold was handed out.
pub record HasCommittedBeside (lim : Bounds) (before : TreeSeat) (t : ℕ) (turn : HeldTurn) (frame : Frame) (stop : Stop)
    (number : ℕ) (end : End) (child : Option TaskSlot) (slot : TaskSlot) (after : TreeSeat) (old_log new_log : Log) : Type 0 where
  pub clock : ℕ
  pub number_is : number ≡ entries_of_clock clock
  pub end_is : end ≡ end_after lim (asked_of_clock clock) stop
  pub slot_is : slot ≡ slot_of (row_after lim (asked_of_clock clock) turn.row frame stop)
  pub had_none : ForSome (child_row lim (asked_of_clock clock) t stop)
      (λ _. turn_in before.0.floor.turns (asked_of_clock clock + 1) ≡ None)
  pub unplaced : ForSome (child_row lim (asked_of_clock clock) t stop)
      (λ _. (r : Record) → IsAmong r before.0.fresh → r.task ≢ asked_of_clock clock + 1)
  pub child_is : child ≡ left_to_place (child_row lim (asked_of_clock clock) t stop)
  pub seat : after ≡ with_made (record before.0 { floor = drawn_view lim clock before.0.floor t turn frame stop }, before.1)
      (asked_of_clock clock + 1) (child_row lim (asked_of_clock clock) t stop)
  pub log : new_log ≡ with_entry (entry_at lim clock t frame stop) old_log

-- Entries of admissions.

-- The admission of task t was drawn when the clock said this. The log and what the seat knows have it, and the seat knows that
-- the task is enabled.
pub record HasAdmitted (before : TreeSeat) (t : ℕ) (turn : HeldTurn) (number : ℕ) (after : TreeSeat)
    (old_log new_log : Log) : Type 0 where
  pub clock : ℕ
  pub number_is : number ≡ entries_of_clock clock
  pub seat : after ≡ (admitted_view clock before.0 t turn, before.1)
  pub log : new_log ≡ with_entry (admission_at clock t) old_log
