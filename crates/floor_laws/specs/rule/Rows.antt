-- What the row of a task says of its phase word and of its slot.
use Rattle.std.specs.Prelude.{ℕ, false, Option, None, Some}
use Rattle.machine_state.specs.declared.state.TaskRow.{TaskRow}
use Rattle.machine_state.specs.declared.state.TaskStatus.{TaskStatus}
use Rattle.machine_state.specs.declared.state.TaskStatus.TheVariants as status
use Rattle.machine_state.specs.Rows.{row_awaited}
use Rattle.floor_laws.specs.declared.rule.view.Phase.{Phase}
use Rattle.floor_laws.specs.declared.rule.view.Phase.TheVariants.{Made, Running, Waits, Done, Faulted}
use Rattle.floor_laws.specs.declared.rule.view.TaskSlot.{TaskSlot}

-- the row without the mark that the task was joined, which an entry of its parent sets
abbrev pub unmarked : TaskRow → TaskRow
unmarked row = record row { joined = false }

-- the phase of a task with this status, whose next operation is a wait for this task, if it is a wait
abbrev pub phase_at : TaskStatus → Option ℕ → Phase
phase_at status.Made on = Made
phase_at status.Enabled None = Running
phase_at status.Enabled (Some u) = Waits u
phase_at status.Done on = Done
phase_at status.Faulted on = Faulted

-- what the phase word of a task with this row says while nobody has its turn
abbrev pub phase_of : TaskRow → Phase
phase_of row = phase_at row.status (row_awaited row.frame.next)

-- what the slot of the task holds while nobody has its turn
abbrev pub slot_of : TaskRow → TaskSlot
slot_of row = record { frame = row.frame; decl = row.decl; args = row.args; effects = row.effects; parent = row.parent }
