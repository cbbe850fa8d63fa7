-- What was found is kept as more is found.
use Rattle.std.specs.Prelude.{◌≡◌, ℕ, List, Some, slice_get}
use Rattle.flat_sched.specs.declared.ending.WholeRun.{WholeRun}
use Rattle.all_runs.specs.declared.found.FoundRun.{FoundRun}

-- each run that was found stays at its place
pub record Grows (going : List FoundRun) (ended : List WholeRun) (later : List FoundRun) (over : List WholeRun) : Type 0 where
  pub going_stay : (at : ℕ) (run : FoundRun) → slice_get going at ≡ Some run → slice_get later at ≡ Some run
  pub ended_stay : (at : ℕ) (run : WholeRun) → slice_get ended at ≡ Some run → slice_get over at ≡ Some run
