-- Which tasks a picture shows: all, or if there are more than 200, those of the heaviest chain and of the others those with the
-- most work.
use Rattle.std.specs.Prelude.{◌+◌, ℕ, Bool, true, false, List, Option, None, Some, if◌then◌else◌, length, nat_lt, replicate, slice_get, slice_index, slice_set}
use Rattle.std.specs.List.{fold}
use Rattle.machine_state.specs.declared.state.TaskRow.{TaskRow}
use Rattle.twe_draw.specs.picture.Bars.{bar_length}
use Rattle.twe_draw.specs.declared.picture.bars.EntryBar.{EntryBar}
use Rattle.twe_draw.specs.picture.Choice.{AreShown}

-- how many tasks have a row at most, if no more are of the heaviest chain
abbrev pub most_rows : ℕ
most_rows = 200

-- the works of the tasks, with that of an entry of one of them
abbrev pub with_entry_work : List ℕ → EntryBar → List ℕ
with_entry_work works bar =
    if nat_lt bar.task (length works)
    then slice_set works bar.task (slice_index works bar.task + bar_length bar)
    else works

-- the work of each of so many tasks: what its entries weigh in all
abbrev pub works_of : ℕ → List EntryBar → List ℕ
works_of tasks bars = fold with_entry_work (replicate tasks 0) bars

-- the flags of tasks, with that of the task of an entry that was looked up
abbrev pub with_flag : List Bool → Option EntryBar → List Bool
with_flag flags None = flags
with_flag flags (Some bar) = if nat_lt bar.task (length flags) then slice_set flags bar.task true else flags

-- whether each of so many tasks has an entry of the chain
abbrev pub chain_flags : ℕ → List ℕ → List EntryBar → List Bool
chain_flags tasks chain bars = fold (λ flags number. with_flag flags (slice_get bars number)) (replicate tasks false) chain

-- these tasks are shown
abbrev pub AreShownTasks : List ℕ → List EntryBar → List TaskRow → List Bool → Type 0
AreShownTasks chain bars tasks shown =
    AreShown most_rows (works_of (length tasks) bars) (chain_flags (length tasks) chain bars) shown

-- a row that was looked up
abbrev pub row_found : Option (Option ℕ) → Option ℕ
row_found None = None
row_found (Some row) = row

-- the row of a task, if it has one
abbrev pub row_at : List (Option ℕ) → ℕ → Option ℕ
row_at rows task = row_found (slice_get rows task)
