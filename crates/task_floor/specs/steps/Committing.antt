-- How a stand draws an entry: what it needs, and what it leaves.
use Rattle.std.specs.Prelude.{◌≡◌, ◌+◌, ◌-◌, ◌++◌, ℕ, List, [], ◌∷◌, Option, None, Some, if◌then◌else◌, nat_lt}
use Rattle.twe_base.specs.Limits.{Bounds}
use Rattle.twe_program.specs.Program.{Program}
use Rattle.seg_journal.specs.declared.journal.End.{End}
use Rattle.seg_journal.specs.declared.journal.End.TheVariants as ends
use Rattle.seg_meaning.specs.declared.stop.Stop.{Stop}
use Rattle.seg_meaning.specs.declared.stop.Stop.TheVariants as stops
use Rattle.seg_meaning.specs.Segment.{HasRoomToSpawn}
use Rattle.machine_state.specs.declared.state.TaskRow.{TaskRow}
use Rattle.machine_state.specs.declared.state.TaskStatus.{TaskStatus}
use Rattle.machine_state.specs.declared.state.TaskStatus.TheVariants as status
use Rattle.machine_state.specs.Moves.{new_row, parent_of}
use Rattle.seg_journal.specs.declared.numbered.NumberedEntry.{NumberedEntry}
use Rattle.floor_laws.specs.declared.rule.view.HeldTurn.{HeldTurn}
use Rattle.floor_laws.specs.declared.rule.view.TaskSlot.{TaskSlot}
use Rattle.floor_laws.specs.rule.Rows.{slot_of}
use Rattle.floor_laws.specs.table.Tells.{IsLatest, MayDraw, Seat}

-- the entries that a worker has drawn, and how many more can be added without taking memory
pub record Log : Type 0 where
  pub entries : List NumberedEntry
  pub room : ℕ

-- no entry, and no room for one
abbrev pub empty_log : Log
empty_log = record { entries = []; room = 0 }

-- one more entry, in the room that was reserved for it
abbrev pub with_entry : NumberedEntry → Log → Log
with_entry e log = record { entries = log.entries ++ e ∷ []; room = log.room - 1 }

-- The seat may draw the entry of task t, whose slot is the latest that it has out. The segment of the task has left the frame
-- of this slot and has stopped in this way. The rest of the slot is as the last entry left it.
pub record MayCommitEntry (p : Program) (me : Seat) (t : ℕ) (slot : TaskSlot) (stop : Stop) (turn : HeldTurn) : Type 0 where
  pub latest : IsLatest me t
  pub may : MayDraw p me t turn slot.frame stop
  pub rest : slot ≡ record (slot_of turn.row) { frame = slot.frame }
  pub room : HasRoomToSpawn stop slot.frame

-- the row of the task that an entry of t with this stop makes, if it makes one
abbrev pub child_row : Bounds → ℕ → ℕ → Stop → Option TaskRow
child_row lim asked t (stops.Make child args effects spawned future place) =
    if nat_lt (asked + 1) lim.tasks then Some (new_row lim (asked + 1) (parent_of t spawned) child args effects) else None
child_row lim asked t (stops.Waits on) = None
child_row lim asked t (stops.Joins on) = None
child_row lim asked t (stops.Done value) = None
child_row lim asked t (stops.Fault kind place) = None

-- the status of a task after an entry with this end
abbrev pub status_after : End → TaskStatus
status_after ends.Admitted = status.Enabled
status_after (ends.Made child) = status.Enabled
status_after (ends.Waits on) = status.Enabled
status_after (ends.Joins on) = status.Enabled
status_after (ends.Done value) = status.Done
status_after (ends.Fault kind place) = status.Faulted
