-- The tasks of a state of the machine, as the core of admission knows them.
use Rattle.std.specs.Prelude.{◌≡◌, ℕ, List}
use Rattle.seg_journal.specs.declared.journal.Entry.{Entry}
use Rattle.machine_state.specs.declared.state.State.{State}
use Rattle.machine_state.specs.declared.state.TaskRow.{TaskRow}
use Rattle.machine_state.specs.declared.state.TaskStatus.{TaskStatus}
use Rattle.machine_state.specs.declared.state.TaskStatus.TheVariants as machine
use Rattle.machine_state.specs.Rows.{IsRow}
use Rattle.isolation_laws.specs.Admission.{made_last}
use Rattle.floor_laws.specs.admission.admission_core.Tasks.{Status, Task, Tasks, IsTask}
use Rattle.floor_laws.specs.admission.admission_core.Tasks as core

-- the core's status of a task with this status in the machine; they have the same four cases
abbrev pub status_of : TaskStatus → Status
status_of machine.Made = core.Made
status_of machine.Enabled = core.Enabled
status_of machine.Done = core.Done
status_of machine.Faulted = core.Faulted

-- The tasks are those of the state after this journal: they have its links, and the effects and statuses of its rows, and
-- each has the child that its last entry in the journal made. Turns, and which tasks are still to be placed, may be any.
pub record AreTasksOf (journal : List Entry) (st : State) (tasks : Tasks) : Type 0 where
  pub links : tasks.links ≡ st.links
  pub row : (t : ℕ) (task : Task) → IsTask tasks t task
      → (row : TaskRow) × IsRow st t row × (task.effects ≡ row.effects.effects) × (task.status ≡ status_of row.status)
      × (task.made ≡ made_last t journal)
  pub task : (t : ℕ) (row : TaskRow) → IsRow st t row → (task : Task) × IsTask tasks t task
