-- If a run has ended, and one that was found has ended with the same outcome, then in each way in which it can still end one that was
-- found has ended.
use Rattle.std.proofs.Common.{◌≡◌, ◌≢◌, ℕ, List, [], ◌∷◌, None, Some, refl, sym, ap, ◌∙◌, subst}
use Rattle.std.specs.Prelude.{slice_get}
use Rattle.std.proofs.lemmas.Option.{none-some}
use Rattle.twe_base.specs.Limits.{Bounds}
use Rattle.seg_journal.specs.declared.journal.Entry.{Entry}
use Rattle.twe_program.specs.Program.{Program}
use Rattle.twe_program.specs.WellFormed.{IsWellFormed}
use Rattle.machine_state.specs.declared.ending.Outcome.{Outcome}
use Rattle.machine_state.specs.declared.ending.Outcome.TheVariants.{AllDone, Fault, Stuck, Unfinished}
use Rattle.machine_state.specs.declared.state.FirstFault.{FirstFault}
use Rattle.machine_state.specs.declared.state.State.{State}
use Rattle.machine_state.specs.Runs.{IsOutcome, IsReached, LegalFrom, replayed}
use Rattle.determinism_laws.specs.Endings.{HasMetFault}
use Rattle.flat_sched.specs.declared.ending.RunEnd.{RunEnd}
use Rattle.flat_sched.specs.declared.ending.RunEnd.TheVariants as ends_of_runs
use Rattle.flat_sched.specs.declared.ending.WholeRun.{WholeRun}
use Rattle.flat_sched.specs.RunEnds.{IsRunEnd, outcome_of}
use Rattle.reduction_laws.specs.WaysToEnd.{CanEndSo, HasEndedSo, WayToEnd, all_done, faulty, stuck}
use Rattle.all_runs.specs.AllRuns.{IsFoundWay}
use Rattle.all_runs.specs.Explored.{EndsAs, HasEnded, HaveOneResult, IsFoundEnd}
use Rattle.all_runs.proofs.Outcomes.{fault_stays_on, none_if_done, not_unfinished}

pub run_outcome : (st : State) (end : RunEnd) → IsRunEnd st end → IsOutcome st (outcome_of end)
run_outcome st ends_of_runs.AllDone is = is
run_outcome st (ends_of_runs.Fault task kind place) is = is
run_outcome st (ends_of_runs.Stuck cycle) is = is.0
run_outcome st ends_of_runs.Unfinished is = is

pub met_none : (st : State) → st.first_fault ≡ None → ¬ HasMetFault st
met_none st none met = none-some met.0 (sym none ∙ met.1)

module _ (p : Program) (lim : Bounds) (well : IsWellFormed p) (st : State) (reached : IsReached p lim st) (ended : List WholeRun)
    (runs : (at : ℕ) (run : WholeRun) → slice_get ended at ≡ Some run → HasEnded p lim run) where
  -- the outcome of the run that was found
  found_outcome : (at : ℕ) (run : WholeRun) (outcome : Outcome) → slice_get ended at ≡ Some run → EndsAs run st outcome → IsOutcome run.state outcome
  found_outcome at run outcome there ends = subst (IsOutcome run.state) ends.ended_so (run_outcome run.state run.end (runs at run there).end)

  -- All tasks are done.

  done_way : (way : WayToEnd) → IsOutcome st AllDone → IsFoundEnd ended st AllDone → HasEndedSo st way → IsFoundWay ended way
  done_way (all_done cells prints tasks) is (at, run, there, ends) so =
      let one = ends.result refl in
      (at, run, there, (found_outcome at run AllDone there ends, one.cells ∙ so.1, one.prints ∙ so.2, one.tasks ∙ so.3))
  done_way stuck is found so = absurd (so.1 is.1)
  done_way faulty is found so = absurd (met_none st is.0 so)

  done_now : (way : WayToEnd) → IsOutcome st AllDone → (entries : List Entry) → LegalFrom p lim st entries → HasEndedSo (replayed p lim st entries) way → HasEndedSo st way
  done_now way is [] legal so = so
  done_now way is (entry ∷ entries) legal so = absurd (none_if_done st entry.mv is.1 legal.0)

  -- The run is stuck.

  stuck_way : (way : WayToEnd) → IsOutcome st Stuck → IsFoundEnd ended st Stuck → HasEndedSo st way → IsFoundWay ended way
  stuck_way (all_done cells prints tasks) is found so = absurd (is.1 so.0.1)
  stuck_way stuck is (at, run, there, ends) so = (at, run, there, found_outcome at run Stuck there ends)
  stuck_way faulty is found so = absurd (met_none st is.0 so)

  stuck_now : (way : WayToEnd) → IsOutcome st Stuck → (entries : List Entry) → LegalFrom p lim st entries → HasEndedSo (replayed p lim st entries) way → HasEndedSo st way
  stuck_now way is [] legal so = so
  stuck_now way is (entry ∷ entries) legal so = absurd (is.2 entry.mv legal.0)

  -- A task has met a fault.

  fault_way : (way : WayToEnd) (first : FirstFault) → st.first_fault ≡ Some first → IsFoundEnd ended st (Fault first.task first.kind first.place) → CanEndSo p lim st way
      → IsFoundWay ended way
  fault_way (all_done cells prints tasks) first is found can =
      absurd (met_none (replayed p lim st can.entries) can.ended.0.0 (first, fault_stays_on p lim well can.entries st first reached can.legal is))
  fault_way stuck first is found can =
      absurd (met_none (replayed p lim st can.entries) can.ended.0 (first, fault_stays_on p lim well can.entries st first reached can.legal is))
  fault_way faulty first is (at, run, there, ends) can = (at, run, there, (first, found_outcome at run (Fault first.task first.kind first.place) there ends))

  pub way_found : (way : WayToEnd) (outcome : Outcome) → IsOutcome st outcome → IsFoundEnd ended st outcome → CanEndSo p lim st way → IsFoundWay ended way
  way_found way AllDone is found can = done_way way is found (done_now way is can.entries can.legal can.ended)
  way_found way Stuck is found can = stuck_way way is found (stuck_now way is can.entries can.legal can.ended)
  way_found way (Fault task kind place) is found can = fault_way way (record { task = task; kind = kind; place = place }) is found can
  way_found way Unfinished is (at, run, there, ends) can = absurd (not_unfinished run.end (runs at run there).over ends.ended_so)
