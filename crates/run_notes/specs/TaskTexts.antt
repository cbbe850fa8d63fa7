-- How tasks are named for people.
use Rattle.std.specs.Prelude.{◌++◌, ℕ, ℤ, List, [], Option, None, Some, codes, decimal, slice_get}
use Rattle.run_texts.specs.TaskLabels.{decl_name, listed_args}
use Rattle.twe_program.specs.Program.{Program}
use Rattle.machine_state.specs.declared.state.State.{State}
use Rattle.machine_state.specs.declared.state.TaskRow.{TaskRow}

-- a name and arguments, as ` `w(3, -1)``
abbrev pub call_shown : List ℕ → List ℤ → List ℕ
call_shown name args = codes " `" ++ (name ++ (codes "(" ++ (listed_args args ++ codes ")`")))

-- the name and the arguments of a task that was looked up
abbrev pub shown_if_found : Program → Option TaskRow → List ℕ
shown_if_found p None = []
shown_if_found p (Some row) = call_shown (decl_name (slice_get p.tasks row.decl)) row.args

-- the task of this number, as task 2 `w(3, -1)`
abbrev pub task_shown : Program → State → ℕ → List ℕ
task_shown p st task = codes "task " ++ (decimal task ++ shown_if_found p (slice_get st.tasks task))
