-- How a run has ended, and the reason if it is stuck.
use Rattle.std.specs.Prelude.{◌≡◌, Bool, true, false}
use Rattle.machine_state.specs.declared.ending.Outcome.{Outcome}
use Rattle.machine_state.specs.declared.ending.Outcome.TheVariants as outcomes
use Rattle.machine_state.specs.declared.state.State.{State}
use Rattle.machine_state.specs.Runs.{IsOutcome}
use Rattle.flat_sched.specs.Stuck.{IsStuckCycle}
use Rattle.flat_sched.specs.declared.ending.RunEnd.{RunEnd}
use Rattle.flat_sched.specs.declared.ending.RunEnd.TheVariants.{AllDone, Fault, Stuck, Unfinished}

-- the outcome of a run that has ended so
abbrev pub outcome_of : RunEnd → Outcome
outcome_of AllDone = outcomes.AllDone
outcome_of (Fault task kind place) = outcomes.Fault task kind place
outcome_of (Stuck cycle) = outcomes.Stuck
outcome_of Unfinished = outcomes.Unfinished

-- a run that has ended so is over
abbrev pub is_run_over : RunEnd → Bool
is_run_over Unfinished = false
is_run_over _ = true

-- A run that has come to this state has ended so: it has this outcome, and if it is stuck, the cycle is the one in which its
-- tasks are stuck.
abbrev pub IsRunEnd : State → RunEnd → Type 0
IsRunEnd st AllDone = IsOutcome st outcomes.AllDone
IsRunEnd st (Fault task kind place) = IsOutcome st (outcomes.Fault task kind place)
IsRunEnd st (Stuck cycle) = IsOutcome st outcomes.Stuck × IsStuckCycle st cycle
IsRunEnd st Unfinished = IsOutcome st outcomes.Unfinished
