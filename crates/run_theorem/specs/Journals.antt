-- What holds over the whole of a journal.
use Rattle.std.specs.Prelude.{◌≡◌, ◌≤◌, ◌<◌, ◌&&◌, ◌||◌, ℕ, Bool, false, List, Option, None, Some, count_by, is_some, length, slice_get, take}
use Rattle.seg_journal.specs.declared.journal.Entry.{Entry}
use Rattle.twe_base.specs.Limits.{Bounds}
use Rattle.twe_program.specs.Program.{Program}
use Rattle.machine_state.specs.declared.state.State.{State}
use Rattle.machine_state.specs.declared.state.TaskRow.{TaskRow}
use Rattle.machine_state.specs.Runs.{admits, finishes, makes, state_after}
use Rattle.isolation_laws.specs.Rows.{RowsKeepToDeclarations}

-- Effects.

-- after each beginning of the journal, each task runs its own declaration, and its effects are those that the declaration has
-- for its arguments
abbrev pub AlwaysDeclared : Program → Bounds → List Entry → Type 0
AlwaysDeclared p lim journal =
    (n : ℕ) → n ≤ length journal → RowsKeepToDeclarations p (state_after p lim (take n journal))

-- How often each task was made, enabled and finished.

-- this is the row of a task that was spawned: it has a parent
abbrev pub is_spawned_row : Option TaskRow → Bool
is_spawned_row None = false
is_spawned_row (Some row) = is_some row.parent

-- The entry of a journal that led to this state enabled task t: it admitted t, or it made t and t is a spawned task.
abbrev pub enables : State → ℕ → Entry → Bool
enables st t entry = admits t entry || (is_spawned_row (slice_get st.tasks t) && makes t entry)

-- Nothing happened to task t in the journal that led to this state: no entry made, enabled or finished it.
pub record NothingHappened (journal : List Entry) (st : State) (t : ℕ) : Type 0 where
  pub not_made : count_by (makes t) journal ≡ 0
  pub not_enabled : count_by (enables st t) journal ≡ 0
  pub not_finished : count_by (finishes t) journal ≡ 0

-- In the journal that led to this state, each task was made, enabled and finished at most once. Task 0 is there from the
-- start, so no entry made it. Nothing happened to a task that is not there.
pub record EachEnabledAtMostOnce (journal : List Entry) (st : State) : Type 0 where
  pub made : (t : ℕ) → count_by (makes t) journal ≤ 1
  pub enabled : (t : ℕ) → count_by (enables st t) journal ≤ 1
  pub finished : (t : ℕ) → count_by (finishes t) journal ≤ 1
  pub first : count_by (makes 0) journal ≡ 0
  pub others : (t : ℕ) → length st.tasks ≤ t → NothingHappened journal st t

-- In the journal that led to this state, each task was enabled and finished exactly once, and each but task 0 was made
-- exactly once. Task 0 is there from the start, so no entry made it. Nothing happened to a task that is not there.
pub record EachEnabledOnce (journal : List Entry) (st : State) : Type 0 where
  pub made : (t : ℕ) → 0 < t → t < length st.tasks → count_by (makes t) journal ≡ 1
  pub enabled : (t : ℕ) → t < length st.tasks → count_by (enables st t) journal ≡ 1
  pub finished : (t : ℕ) → t < length st.tasks → count_by (finishes t) journal ≡ 1
  pub first : count_by (makes 0) journal ≡ 0
  pub others : (t : ℕ) → length st.tasks ≤ t → NothingHappened journal st t
