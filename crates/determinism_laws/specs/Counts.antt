-- How many tasks a sequential execution makes.
use Rattle.std.specs.Prelude.{◌≡◌, ◌↔◌, ◌<◌, ℕ, List, Contains, length}
use Rattle.seg_journal.specs.declared.journal.Entry.{Entry}
use Rattle.twe_base.specs.Limits.{Bounds}
use Rattle.twe_program.specs.Program.{Program}
use Rattle.machine_state.specs.declared.state.State.{State}
use Rattle.machine_state.specs.declared.state.TaskRow.{TaskRow}
use Rattle.machine_state.specs.Runs.{state_after}
use Rattle.determinism_laws.specs.Orders.{EachStandsOnce}
use Rattle.determinism_laws.specs.Ranks.{BelowTask}
use Rattle.determinism_laws.specs.results.Results.{HasSequentialResult}

-- The list has t and the tasks below it, and no others, each once: t, those that t spawned, those that these spawned, and so on.
pub record AreTasksBelow (st : State) (t : ℕ) (tasks : List ℕ) : Type 0 where
  pub once : EachStandsOnce tasks
  pub members : (u : ℕ) → Contains tasks u ↔ ((u < length st.tasks) × BelowTask st t u)

-- Task t, which has this row at the end, has given the result of its sequential execution, which made as many tasks as there
-- are below t in the run, t included.
pub record HasCountedResult (p : Program) (lim : Bounds) (journal : List Entry) (t : ℕ) (row : TaskRow) : Type 0 where
  pub result : HasSequentialResult p lim journal t row
  pub tasks : List ℕ
  pub below : AreTasksBelow (state_after p lim journal) t tasks
  pub counted : result.made ≡ length tasks
