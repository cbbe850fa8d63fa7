-- Who made the tasks of a run, and where.
use Rattle.std.specs.Prelude.{◌++◌, ◌-◌, ◌==◌, ℕ, List, [], ◌∷◌, Option, None, Some, if◌then◌else◌, slice_get}
use Rattle.twe_base.specs.declared.place.Place.{Place}
use Rattle.twe_base.specs.Limits.{Bounds}
use Rattle.seg_journal.specs.declared.journal.End.{End}
use Rattle.seg_journal.specs.declared.journal.End.TheVariants as ends
use Rattle.seg_journal.specs.declared.journal.Entry.{Entry}
use Rattle.twe_program.specs.Program.{Program}
use Rattle.machine_state.specs.declared.state.State.{State}
use Rattle.machine_state.specs.declared.state.TaskRow.{TaskRow}
use Rattle.machine_state.specs.Moves.{move_result, start_of}
use Rattle.run_facts.specs.LastBegun.{stands_at}
use Rattle.run_facts.specs.declared.making.TaskMaking.{TaskMaking}

-- where the task of a row that was looked up stands
abbrev pub place_of_row : Program → Option TaskRow → Option Place
place_of_row p None = None
place_of_row p (Some row) = stands_at p row

-- What a move of a task with this end has made, if it has made a task, in the state after it: the task of the move made it, and
-- stands at the place of its name.
abbrev pub making_by : Program → State → ℕ → End → List TaskMaking
making_by p after maker (ends.Made child) =
    record { child = child; maker = maker; place = place_of_row p (slice_get after.tasks maker) } ∷ []
making_by p after maker _ = []

-- the makings of these entries from this state on, in their order
abbrev pub makings_from : Program → Bounds → State → List Entry → List TaskMaking
makings_from p lim st [] = []
makings_from p lim st (entry ∷ entries) =
    let after = (move_result p lim st entry.mv).0 in
    making_by p after entry.mv.task entry.end ++ makings_from p lim after entries

-- the makings of a journal, in its order
abbrev pub makings_of : Program → Bounds → List Entry → List TaskMaking
makings_of p lim journal = makings_from p lim (start_of p lim) journal

-- the making that was looked up, if it is of this task
abbrev pub making_if : ℕ → Option TaskMaking → Option TaskMaking
making_if task None = None
making_if task (Some making) = if making.child == task then Some making else None

-- how this task was made; tasks are numbered in the order in which they were made, and none made task 0
abbrev pub making_of : List TaskMaking → ℕ → Option TaskMaking
making_of makings task = making_if task (slice_get makings (task - 1))
