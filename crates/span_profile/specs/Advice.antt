-- What a run could gain, by its journal.
use Rattle.std.specs.Prelude.{◌≡◌, ◌*◌, ◌/◌, ◌==◌, ℕ, List, map, if◌then◌else◌}
use Rattle.seg_journal.specs.declared.journal.Entry.{Entry}
use Rattle.seg_journal.specs.declared.moves.Move.{Move}
use Rattle.seg_journal.specs.Spelling.{move_of}
use Rattle.twe_base.specs.Limits.{Bounds}
use Rattle.twe_program.specs.Program.{Program}
use Rattle.machine_state.specs.declared.state.State.{State}
use Rattle.machine_state.specs.declared.state.TaskRow.{TaskRow}
use Rattle.machine_state.specs.Runs.{Legal, counted, state_after}
use Rattle.span_profile.specs.Profiles.{IsProfile}
use Rattle.span_profile.specs.Totals.{works_from}
use Rattle.span_profile.specs.declared.totals.TaskWork.{TaskWork}

-- The parallelism is the work by the span, in hundredths, rounded down. It is 0 if nothing was done.
abbrev pub parallelism_of : ℕ → ℕ → ℕ
parallelism_of work span = if span == 0 then 0 else work * 100 / span

-- The journal is the counted part of the legal one that has these moves, and leads to this state.
pub record IsCountedRun (p : Program) (lim : Bounds) (moves : List Move) (journal : List Entry) (st : State) : Type 0 where
  pub whole : List Entry
  pub legal : Legal p lim whole
  pub has : map move_of whole ≡ moves
  pub journal_is : journal ≡ counted whole
  pub state_is : st ≡ state_after p lim journal

-- the work of each task of the run that counts, in the order in which they were made
pub record AreWorks (p : Program) (lim : Bounds) (moves : List Move) (works : List TaskWork) : Type 0 where
  pub journal : List Entry
  pub st : State
  pub run : IsCountedRun p lim moves journal st
  pub works_are : works ≡ works_from lim.fuel journal 0 st.tasks

-- the tasks that the run that counts has made
pub record AreMadeTasks (p : Program) (lim : Bounds) (moves : List Move) (tasks : List TaskRow) : Type 0 where
  pub journal : List Entry
  pub st : State
  pub run : IsCountedRun p lim moves journal st
  pub tasks_are : tasks ≡ st.tasks

-- The work and the span of the moves, their heaviest chain, and the work of each task. The moves after the first fault do not
-- count.
pub record IsAdvice (p : Program) (lim : Bounds) (moves : List Move) (work span : ℕ) (chain : List ℕ) (works : List TaskWork)
    : Type 0 where
  pub profile : IsProfile p lim moves work span chain
  pub tasks : AreWorks p lim moves works
