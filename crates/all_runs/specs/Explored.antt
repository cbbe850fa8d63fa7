-- What was explored of the runs of a program: the runs that were found.
use Rattle.std.specs.Prelude.{◌≡◌, ◌<◌, ◌⊎◌, ℕ, List, length, Some, true, slice_get}
use Rattle.seg_journal.specs.declared.moves.Move.{Move}
use Rattle.twe_base.specs.Limits.{Bounds}
use Rattle.twe_program.specs.Program.{Program}
use Rattle.machine_state.specs.declared.ending.Outcome.{Outcome}
use Rattle.machine_state.specs.declared.ending.Outcome.TheVariants.{AllDone, Unfinished}
use Rattle.machine_state.specs.declared.state.State.{State}
use Rattle.machine_state.specs.Legal.{MayMove}
use Rattle.machine_state.specs.Moves.{move_result, start_of}
use Rattle.machine_state.specs.Runs.{IsOutcome, IsRun}
use Rattle.flat_sched.specs.declared.ending.WholeRun.{WholeRun}
use Rattle.flat_sched.specs.RunEnds.{IsRunEnd, is_run_over, outcome_of}
use Rattle.all_runs.specs.declared.found.FoundRun.{FoundRun}
use Rattle.state_copies.specs.Lasting.{AreAlike}
use Rattle.reduction_laws.specs.declared.choice.Choice.{Choice}
use Rattle.reduction_laws.specs.Enough.{IsChosen, IsEnough}

-- The run is one of the program, and it can go on.
pub record CanGoOn (p : Program) (lim : Bounds) (run : FoundRun) : Type 0 where
  pub is_run : IsRun p lim run.journal run.state
  pub unfinished : IsOutcome run.state Unfinished

-- The run is one of the program, and it has ended so: all tasks are done, or it is stuck, or some task has met a fault.
pub record HasEnded (p : Program) (lim : Bounds) (run : WholeRun) : Type 0 where
  pub is_run : IsRun p lim run.journal run.state
  pub end : IsRunEnd run.state run.end
  pub over : is_run_over run.end ≡ true

-- The numbers that were printed, the values of the cells and the number of tasks are the same.
pub record HaveOneResult (st other : State) : Type 0 where
  pub prints : st.prints ≡ other.prints
  pub cells : st.cells ≡ other.cells
  pub tasks : length st.tasks ≡ length other.tasks

-- The run has ended as one with this outcome in this state has: with the same outcome, which for a fault has the task that met
-- it, its kind and its place; and if all tasks are done, with the same result.
pub record EndsAs (run : WholeRun) (st : State) (outcome : Outcome) : Type 0 where
  pub ended_so : outcome_of run.end ≡ outcome
  pub result : outcome ≡ AllDone → HaveOneResult run.state st

-- a run that was found has come to a state that is like this one
abbrev pub IsSeen : List FoundRun → State → Type 0
IsSeen going st = (at : ℕ) × (run : FoundRun) × (slice_get going at ≡ Some run) × AreAlike run.state st

-- a run that was found has ended as one with this outcome in this state has
abbrev pub IsFoundEnd : List WholeRun → State → Outcome → Type 0
IsFoundEnd ended st outcome = (at : ℕ) × (run : WholeRun) × (slice_get ended at ≡ Some run) × EndsAs run st outcome

-- a run that has come to this state is known: it can go on, and a state like this one was seen; or it has ended, and one that was
-- found has ended so too
abbrev pub IsKnown : List FoundRun → List WholeRun → State → Type 0
IsKnown going ended st = IsSeen going st ⊎ ((outcome : Outcome) × IsOutcome st outcome × IsFoundEnd ended st outcome)

-- These runs were found: some that can go on, and some that have ended, no two of them in one way.
pub record AreFound (p : Program) (lim : Bounds) (going : List FoundRun) (ended : List WholeRun) : Type 0 where
  pub going_runs : (at : ℕ) (run : FoundRun) → slice_get going at ≡ Some run → CanGoOn p lim run
  pub ended_runs : (at : ℕ) (run : WholeRun) → slice_get ended at ≡ Some run → HasEnded p lim run
  pub apart : (at later : ℕ) (run other : WholeRun) → at < later → slice_get ended at ≡ Some run → slice_get ended later ≡ Some other
      → ¬ EndsAs run other.state (outcome_of other.end)

-- These runs were found, and the run without a move is known.
pub record IsExploration (p : Program) (lim : Bounds) (going : List FoundRun) (ended : List WholeRun) : Type 0 where
  pub found : AreFound p lim going ended
  pub start : IsKnown going ended (start_of p lim)

-- enough moves of a run that was found were taken: of some choice that is enough, each legal move leads to a run that is known
pub record IsTakenFrom (p : Program) (lim : Bounds) (going : List FoundRun) (ended : List WholeRun) (st : State) : Type 0 where
  pub choice : Choice
  pub enough : IsEnough p st choice
  pub taken : (mv : Move) → IsChosen choice mv → MayMove st mv → IsKnown going ended (move_result p lim st mv).0

-- so it is of each run that was found, of those before this place
abbrev pub IsClosedBelow : Program → Bounds → List FoundRun → List WholeRun → ℕ → Type 0
IsClosedBelow p lim going ended bound =
    (at : ℕ) (run : FoundRun) → at < bound → slice_get going at ≡ Some run → IsTakenFrom p lim going ended run.state
