-- What the tasks of a run took, one by one and by their declarations.
use Rattle.std.specs.Prelude.{◌≡◌, ◌<◌, ◌≤◌, ◌+◌, ◌-◌, ◌==◌, ◌^◌, ℕ, suc, Bool, true, false, List, [], ◌∷◌, length, max, if◌then◌else◌}
use Rattle.std.specs.List.{All, count_by, fold, sum_by}
use Rattle.seg_journal.specs.declared.journal.Entry.{Entry}
use Rattle.twe_base.specs.Language.{max_tasks}
use Rattle.machine_state.specs.declared.state.TaskRow.{TaskRow}
use Rattle.span_profile.specs.declared.totals.TaskWork.{TaskWork}
use Rattle.span_profile.specs.declared.totals.TaskTotal.{TaskTotal}

-- how many entries of the journal are of the task
abbrev pub entries_of : ℕ → List Entry → ℕ
entries_of task journal = count_by (λ (entry : Entry). entry.mv.task == task) journal

-- The work of a task that had so much fuel, if the journal leads to a state in which it has this row: 1 for each of its entries,
-- and 1 for each unit of fuel that it has taken.
abbrev pub work_of : ℕ → List Entry → ℕ → TaskRow → ℕ
work_of fuel journal task row = entries_of task journal + (fuel - row.frame.fuel)

-- the declarations and the work of the tasks with these rows, the first of which has this number
abbrev pub works_from : ℕ → List Entry → ℕ → List TaskRow → List TaskWork
works_from fuel journal task [] = []
works_from fuel journal task (row ∷ rows) =
    record { decl = row.decl; work = work_of fuel journal task row } ∷ works_from fuel journal (suc task) rows

-- the work of a task
abbrev pub task_work : TaskWork → ℕ
task_work task = task.work

-- the work of a task if it is of the declaration, and else 0
abbrev pub work_if : ℕ → TaskWork → ℕ
work_if decl task = if task.decl == decl then task.work else 0

-- how many tasks of a declaration were made, their work, and the work of the heaviest of them
abbrev pub total_of : ℕ → List TaskWork → TaskTotal
total_of decl works = record {
  made = count_by (λ (task : TaskWork). task.decl == decl) works;
  work = sum_by (work_if decl) works;
  heaviest = fold (λ most (task : TaskWork). max most (work_if decl task)) 0 works;
}

-- the total with one task more, which is of the declaration or is not
abbrev pub with_work : Bool → TaskTotal → TaskWork → TaskTotal
with_work true total task = record {
  made = total.made + 1;
  work = total.work + task.work;
  heaviest = max total.heaviest task.work;
}
with_work false total task = total

-- There are no more tasks than a run may make, and the work of each is small enough for the sum of all to fit 64 bits.
pub record CanBeSummed (works : List TaskWork) : Type 0 where
  pub few : length works ≤ max_tasks
  pub small : All (λ (task : TaskWork). task.work < 2 ^ 45) works
