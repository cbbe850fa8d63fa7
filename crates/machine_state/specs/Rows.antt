-- The rows of tasks, and the links beside them.
use Rattle.std.specs.Prelude.{◌≡◌, ℕ, Bool, true, false, map, Option, None, Some, slice_get, IsTrue}
use Rattle.wait_graph.specs.declared.tasks.Link.{Link}
use Rattle.effect_sets.specs.Filled.{all_filled}
use Rattle.seg_meaning.specs.declared.frame.Next.{Next}
use Rattle.seg_meaning.specs.declared.frame.Next.TheVariants.{Go, Get, Join, Closing, Ended}
use Rattle.machine_state.specs.declared.state.State.{State}
use Rattle.machine_state.specs.declared.state.TaskRow.{TaskRow}
use Rattle.machine_state.specs.declared.state.TaskStatus.{TaskStatus}
use Rattle.machine_state.specs.declared.state.TaskStatus.TheVariants.{Made, Enabled, Done, Faulted}

-- this is the row of task t
abbrev pub IsRow : State → ℕ → TaskRow → Type 0
IsRow st t row = slice_get st.tasks t ≡ Some row

-- task t was made and has this status
abbrev pub HasStatus : State → ℕ → TaskStatus → Type 0
HasStatus st t status = (row : TaskRow) × IsRow st t row × (row.status ≡ status)

-- the task that the next operation waits for, if it is a wait
abbrev pub row_awaited : Next → Option ℕ
row_awaited Go = None
row_awaited (Get on into) = Some on
row_awaited (Join on into) = Some on
row_awaited (Closing on) = Some on
row_awaited Ended = None

-- whether this is the status of a task that is done
abbrev pub is_done_status : TaskStatus → Bool
is_done_status Done = true
is_done_status Made = false
is_done_status Enabled = false
is_done_status Faulted = false

-- the task of this row is done
abbrev pub is_done_row : TaskRow → Bool
is_done_row row = is_done_status row.status

-- the links that a row says its task has
abbrev pub link_of_row : TaskRow → Link
link_of_row row = record { waits = row_awaited row.frame.next; parent = row.parent; joined = row.joined; done = is_done_row row }

-- the links of a state agree with its rows
abbrev pub LinksAgree : State → Type 0
LinksAgree st = st.links ≡ map link_of_row st.tasks

-- no effect of a task has a variable
abbrev pub EffectsAreFilled : State → Type 0
EffectsAreFilled st = (t : ℕ) (row : TaskRow) → IsRow st t row → IsTrue (all_filled row.effects.effects)
