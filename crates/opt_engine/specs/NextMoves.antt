-- Taking the moves of a task's next segment without a draft, and what a core answers to that.
use Rattle.std.specs.Prelude.{◌≡◌, ◌+◌, ◌++◌, ℕ, List, length, Option, None, Some}
use Rattle.seg_journal.specs.declared.journal.Entry.{Entry}
use Rattle.twe_base.specs.Limits.{Bounds}
use Rattle.twe_program.specs.Program.{Program}
use Rattle.machine_state.specs.declared.state.State.{State}
use Rattle.machine_state.specs.declared.state.TaskRow.{TaskRow}
use Rattle.machine_state.specs.Rows.{IsRow}
use Rattle.opt_engine.specs.declared.core_run.CoreRun.{CoreRun}
use Rattle.opt_engine.specs.Drafts.{DraftIsReady}
use Rattle.opt_engine.specs.Verdicts.{AreLegalFrom, IsFree, RunGoesOn, entries_from, moves_of, state_from}

-- the task has a next segment, and nothing holds the task back
abbrev pub MayTakeNext : State → ℕ → Type 0
MayTakeNext st t = DraftIsReady st t × IsFree st t

-- The moves of the task's next segment were taken, its admission first if it waited for that: they are legal, and their
-- entries come after the others. The last of them has this number, counted from 0.
pub record TakesNext (p : Program) (lim : Bounds) (old : CoreRun) (t number : ℕ) (new : CoreRun) : Type 0 where
  pub row : TaskRow
  pub there : IsRow old.state t row
  pub legal : AreLegalFrom p lim old.state (moves_of row.status t)
  pub journal : new.journal ≡ old.journal ++ entries_from p lim old.state (moves_of row.status t)
  pub state : new.state ≡ state_from p lim old.state (moves_of row.status t)
  pub last : number + 1 ≡ length new.journal

-- By what a core with this run answers: the moves were taken, if they are legal; None if not, and then its run is as before.
abbrev pub GoesNext : Program → Bounds → CoreRun → ℕ → Option ℕ → Option CoreRun → Type 0
GoesNext p lim run t None new = (new ≡ Some run) × ¬ MayTakeNext run.state t
GoesNext p lim run t (Some number) new = (after : CoreRun) × (new ≡ Some after) × TakesNext p lim run t number after

-- the core had a run, and answers so
abbrev pub AnswersNext : Program → Bounds → List Entry → Option CoreRun → ℕ → Option ℕ → Option CoreRun → Type 0
AnswersNext p lim earlier old t number new =
    (run : CoreRun) × (old ≡ Some run) × RunGoesOn p lim earlier run × GoesNext p lim run t number new
