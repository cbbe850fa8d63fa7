-- How the runs of a program can end.
use Rattle.std.specs.Prelude.{◌≡◌, ◌<◌, ℕ, List, Some, slice_get}
use Rattle.seg_journal.specs.declared.journal.Entry.{Entry}
use Rattle.twe_base.specs.Limits.{Bounds}
use Rattle.twe_program.specs.Program.{Program}
use Rattle.machine_state.specs.Runs.{Legal, state_after}
use Rattle.flat_sched.specs.declared.ending.WholeRun.{WholeRun}
use Rattle.flat_sched.specs.RunEnds.{outcome_of}
use Rattle.all_runs.specs.Explored.{EndsAs, HasEnded}
use Rattle.reduction_laws.specs.WaysToEnd.{HasEndedSo, WayToEnd}

-- These are runs of the program under the limits, each with the legal journal that leads to it. Each has ended, and no two in one
-- way.
pub record ShowsRuns (p : Program) (lim : Bounds) (ended : List WholeRun) : Type 0 where
  pub each : (at : ℕ) (run : WholeRun) → slice_get ended at ≡ Some run → HasEnded p lim run
  pub apart : (at later : ℕ) (run other : WholeRun) → at < later → slice_get ended at ≡ Some run → slice_get ended later ≡ Some other
      → ¬ EndsAs run other.state (outcome_of other.end)

-- one of these runs has ended in this way
abbrev pub IsFoundWay : List WholeRun → WayToEnd → Type 0
IsFoundWay ended way = (at : ℕ) × (run : WholeRun) × (slice_get ended at ≡ Some run) × HasEndedSo run.state way

-- Each run of the program under the limits that has ended, by whatever legal journal it was made, has ended in the way of one of
-- these: with all tasks done and the same result; or stuck; or with a fault, not always the same one.
abbrev pub ShowsAllRuns : Program → Bounds → List WholeRun → Type 0
ShowsAllRuns p lim ended =
    (journal : List Entry) (way : WayToEnd) → Legal p lim journal → HasEndedSo (state_after p lim journal) way → IsFoundWay ended way
