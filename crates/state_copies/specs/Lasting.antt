-- What of a state can still matter to a run that has met no fault.
use Rattle.std.specs.Prelude.{◌≡◌, None, map, if◌then◌else◌}
use Rattle.twe_base.specs.Limits.{Bounds}
use Rattle.twe_program.specs.Program.{Program}
use Rattle.twe_program.specs.WellFormed.{IsWellFormed}
use Rattle.machine_state.specs.declared.state.State.{State}
use Rattle.machine_state.specs.declared.state.TaskRow.{TaskRow}
use Rattle.machine_state.specs.FramesOut.{without_frame}
use Rattle.machine_state.specs.Rows.{is_done_row}
use Rattle.machine_state.specs.Runs.{IsReached}

-- a row, without its frame if its task is done: no move looks at that frame
abbrev pub lasting_row : TaskRow → TaskRow
lasting_row row = if is_done_row row then without_frame row else row

-- the state without the frames of the tasks that are done
abbrev pub lasting : State → State
lasting st = record st { tasks = map lasting_row st.tasks }

-- the states differ in the frames of done tasks at most: no later move, no outcome and no result tells them apart
abbrev pub AreAlike : State → State → Type 0
AreAlike st other = lasting st ≡ lasting other

-- a run of a well-formed program under these limits has come to the state, and has met no fault
pub record IsFaultless (p : Program) (lim : Bounds) (st : State) : Type 0 where
  pub well : IsWellFormed p
  pub reached : IsReached p lim st
  pub no_fault : st.first_fault ≡ None
