-- The run theorem.
use Rattle.std.specs.Prelude.{◌≡◌, ◌≤◌, ◌++◌, ℕ, Bool, List, None, Some, Ok, if◌then◌else◌}
use Rattle.seg_journal.specs.declared.journal.Entry.{Entry}
use Rattle.twe_base.specs.Limits.{Bounds}
use Rattle.twe_program.specs.Program.{Program}
use Rattle.twe_program.specs.WellFormed.{IsWellFormed}
use Rattle.twe_frontend.specs.Accepted.{Accepted}
use Rattle.machine_state.specs.declared.ending.Outcome.TheVariants.{AllDone}
use Rattle.machine_state.specs.LowestFirst.{LowestFirst}
use Rattle.machine_state.specs.Runs.{AllTasksDone, AlwaysIsolated, Legal, state_after}
use Rattle.isolation_laws.specs.Conflicts.{AlwaysCovered}
use Rattle.isolation_laws.specs.Within.{AlwaysWithin}
use Rattle.determinism_laws.specs.results.Main.{IsResultOfMain, MainIsDeterministic}
use Rattle.determinism_laws.specs.results.Results.{DeterministicTasksHaveResults}
use Rattle.twe_report.specs.Texts.{journal_part_text, result_text}
use Rattle.twe_io.specs.Ends.{Ends, EndsTell, Took, WasRead}
use Rattle.text_answers.specs.declared.book.Book.{Book}
use Rattle.run_laws.specs.SafeRuns.{MoversAlwaysApart}
use Rattle.run_theorem.specs.Journals.{AlwaysDeclared, EachEnabledOnce}

-- what a run with this journal writes if all tasks are done: its result, and after it the journal if that was asked for
abbrev pub output_of_run : Bool → Program → Bounds → List Entry → List ℕ
output_of_run asked p lim journal =
    if asked
    then result_text p (state_after p lim journal) ++ journal_part_text lim journal
    else result_text p (state_after p lim journal)

-- The run theorem, of a call that was asked to run a text with so many workers under these limits, with its journal or without,
-- and whose status is 0. The ends of the program are as they were before the call and after it.
pub record RunTheorem {S O E : Type 0} (tells : EndsTell S O E) (workers : ℕ) (lim : Bounds) (asked : Bool)
    (before after : Ends S O E) (book : Book) : Type 0 where
  -- the text is all that the source gave
  pub text : List ℕ
  pub read : WasRead tells.src before.src (Ok text) after.src
  -- it is accepted, and means this program, which is well formed
  pub program : Program
  pub accepted : Accepted text program
  pub well_formed : IsWellFormed program
  pub kept : book.prog ≡ Some program
  -- each entry of the journal is legal after those before it; no entry met a fault, and all tasks are done
  pub legal : Legal program lim book.journal
  pub no_fault : (state_after program lim book.journal).first_fault ≡ None
  pub all_done : AllTasksDone (state_after program lim book.journal)
  pub outcome : book.outcome ≡ Some AllDone
  -- each task was made, enabled and finished exactly once
  pub once : EachEnabledOnce book.journal (state_after program lim book.journal)
  -- at every moment, of two enabled tasks that interfere, one yields to the other
  pub isolated : AlwaysIsolated program lim book.journal
  -- at every moment, each task has the effects that it declares, and those of a spawned task lie within those of its parent
  pub declared : AlwaysDeclared program lim book.journal
  pub within : AlwaysWithin program lim book.journal
  -- at every moment, each access that a task that may run makes next is within its effects, and interferes with no effect of
  -- an unjoined child
  pub covered : AlwaysCovered program lim book.journal
  -- at every moment, no accesses of two tasks that may run conflict
  pub apart : MoversAlwaysApart program lim book.journal
  -- each deterministic task has the result of its sequential execution, and so has `main` if it is deterministic
  pub deterministic : DeterministicTasksHaveResults program lim book.journal
  pub of_main : MainIsDeterministic program → IsResultOfMain program lim (state_after program lim book.journal)
  -- without workers, or with one, each entry is the move of the lowest task that has a legal one
  pub lowest : workers ≤ 1 → LowestFirst program lim book.journal
  -- the result was written, and the journal if it was asked for; nothing was written on the other sink
  pub output : Took tells.out (output_of_run asked program lim book.journal) before.out after.out
  pub no_error : after.err ≡ before.err
