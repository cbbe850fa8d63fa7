-- What a finished deterministic task has given: the result of its sequential execution.
use Rattle.std.specs.Prelude.{◌≡◌, ◌≤◌, ◌<◌, ◌+◌, ℕ, ℤ, List, Some, slice_get}
use Rattle.seg_journal.specs.declared.journal.End.TheVariants as ends
use Rattle.seg_journal.specs.declared.journal.Entry.{Entry}
use Rattle.seg_journal.specs.declared.moves.Kind.TheVariants.{Admit}
use Rattle.twe_base.specs.Limits.{Bounds}
use Rattle.twe_program.specs.Program.{Program}
use Rattle.machine_state.specs.declared.state.TaskRow.{TaskRow}
use Rattle.machine_state.specs.declared.state.TaskStatus.TheVariants.{Done}
use Rattle.machine_state.specs.Rows.{IsRow}
use Rattle.machine_state.specs.Runs.{state_after}
use Rattle.determinism_laws.specs.Deterministic.{IsDeterministic}
use Rattle.determinism_laws.specs.Ranks.{IsBelow}
use Rattle.determinism_laws.specs.Segments.{IsSegmentOf, Spawns}
use Rattle.determinism_laws.specs.theorem.Steps.{ElidesAsRun}

-- The entry at this place enabled task t: it admitted t, or it is the segment of another task that spawned t.
pub data IsEnabledBy (p : Program) (lim : Bounds) (journal : List Entry) (t place : ℕ) : Type 0 where
  admitted : (entry : Entry) → slice_get journal place ≡ Some entry → entry.mv.kind ≡ Admit → entry.mv.task ≡ t
      → IsEnabledBy p lim journal t place
  spawned : (parent : ℕ) → Spawns p lim journal parent place t → IsEnabledBy p lim journal t place

-- The entry at this place finished task t with this value.
pub record IsFinishedBy (journal : List Entry) (t place : ℕ) (value : ℤ) : Type 0 where
  pub segment : IsSegmentOf journal t place
  pub end : segment.entry.end ≡ ends.Done value

-- Task t, which has this row at the end, has given the result of its sequential execution. The entry at `enabling` enabled
-- it, and `count` entries later one finished it with its value. All segments of t and of the tasks below it are after the
-- first of the two, up to the second. The sequential execution of its declaration with its arguments, on the cells as they
-- were right after the first, ends with the value of t. It leaves in each cell under the effects of t the value that the
-- cell has right after the second, and prints the numbers that t and the tasks below it have printed.
pub record HasSequentialResult (p : Program) (lim : Bounds) (journal : List Entry) (t : ℕ) (row : TaskRow) : Type 0 where
  pub enabling : ℕ
  pub count : ℕ
  pub enabled : IsEnabledBy p lim journal t enabling
  pub finished : IsFinishedBy journal t (enabling + count) row.value
  pub between : (i : ℕ) → IsBelow p lim journal t i → (enabling < i) × (i ≤ enabling + count)
  pub made : ℕ
  pub elides : ElidesAsRun p lim journal t row (enabling + 1) count row.decl row.args made

-- each deterministic task that is done at the end has it
abbrev pub DeterministicTasksHaveResults : Program → Bounds → List Entry → Type 0
DeterministicTasksHaveResults p lim journal =
    (t : ℕ) (row : TaskRow) → IsRow (state_after p lim journal) t row → row.status ≡ Done → IsDeterministic p row
    → HasSequentialResult p lim journal t row
