-- What the end of a run says of the state to which it has come.
use Rattle.std.proofs.Common.{◌≡◌, ℕ, true, sym, ◌∙◌, subst}
use Rattle.twe_base.specs.declared.fault.FaultKind.{FaultKind}
use Rattle.twe_base.specs.declared.place.Place.{Place}
use Rattle.machine_state.specs.declared.ending.Outcome.TheVariants as outcomes
use Rattle.machine_state.specs.declared.state.State.{State}
use Rattle.machine_state.specs.LowestFirst.{IsOver}
use Rattle.machine_state.specs.Runs.{IsOutcome}
use Rattle.flat_sched.specs.declared.ending.RunEnd.{RunEnd}
use Rattle.flat_sched.specs.declared.ending.RunEnd.TheVariants.{AllDone, Fault, Stuck, Unfinished}
use Rattle.flat_sched.specs.RunEnds.{IsRunEnd, is_run_over, outcome_of}

-- a run that has ended so has this outcome
pub is_outcome : (st : State) (end : RunEnd) → IsRunEnd st end → IsOutcome st (outcome_of end)
is_outcome st AllDone is = is
is_outcome st (Fault task kind place) is = is
is_outcome st (Stuck cycle) is = is.0
is_outcome st Unfinished is = is

over_by_fault : (st : State) (task : ℕ) (kind : FaultKind) (place : Place) → IsOutcome st (outcomes.Fault task kind place) → IsOver st
over_by_fault st task kind place at outcome is same =
    let going : IsOutcome st outcomes.Unfinished = subst (IsOutcome st) same is in absurd (cc (sym going.0 ∙ at))

over_if_done : (st : State) → IsOutcome st outcomes.AllDone → IsOver st
over_if_done st at outcome is same = let going : IsOutcome st outcomes.Unfinished = subst (IsOutcome st) same is in absurd (going.1 at.1)

over_if_stuck : (st : State) → IsOutcome st outcomes.Stuck → IsOver st
over_if_stuck st at outcome is same =
    let going : IsOutcome st outcomes.Unfinished = subst (IsOutcome st) same is in absurd (at.2 going.2.0 going.2.1)

-- if the end says that the run is over, no move is legal, or there was a fault
pub ended_is_over : (st : State) (end : RunEnd) → is_run_over end ≡ true → IsRunEnd st end → IsOver st
ended_is_over st AllDone over is = over_if_done st is
ended_is_over st (Fault task kind place) over is = over_by_fault st task kind place is
ended_is_over st (Stuck cycle) over is = over_if_stuck st is.0
ended_is_over st Unfinished over is = absurd (cc over)
