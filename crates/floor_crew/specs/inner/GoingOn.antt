-- A run at rest that goes on.
use Rattle.std.specs.Prelude.{ℕ, List}
use mathlib.Core.List.{IsPrefix}
use Rattle.seg_journal.specs.declared.journal.Entry.{Entry}
use Rattle.twe_base.specs.Limits.{Bounds}
use Rattle.twe_program.specs.Program.{Program}
use Rattle.machine_state.specs.declared.state.State.{State}
use Rattle.machine_state.specs.Legal.{MayAdmit, MayRun}
use Rattle.twe_machine.specs.Listings.{IsListing}
use Rattle.machine_state.specs.Runs.{IsRun}
use Rattle.floor_crew.specs.declared.at_rest.RunAtRest.{RunAtRest}
use Rattle.floor_crew.specs.declared.outlook_at_rest.OutlookAtRest.{OutlookAtRest}
use Rattle.floor_crew.specs.declared.outlook_at_rest.OutlookAtRest.TheVariants.{Admissible, Held, Runs, Waits, Over}

-- The journal is legal for the program under the limits, and leads to the state. The enabled tasks are those of the state.
pub record IsSound (p : Program) (lim : Bounds) (run : RunAtRest) : Type 0 where
  pub run_is : IsRun p lim run.rest.journal run.rest.state
  pub listing : IsListing run.rest.state run.enabled

-- The run is sound, and its journal begins with the earlier one.
pub record HasGoneOn (p : Program) (lim : Bounds) (earlier : List Entry) (run : RunAtRest) : Type 0 where
  pub sound : IsSound p lim run
  pub begins : IsPrefix earlier run.rest.journal

-- a task of which this was found may be admitted, or may run, if that is what was found
abbrev pub IsOutlook : State → ℕ → OutlookAtRest → Type 0
IsOutlook st task Admissible = MayAdmit st task
IsOutlook st task Runs = MayRun st task
IsOutlook st task (Held by) = Unit {0}
IsOutlook st task (Waits on next) = Unit {0}
IsOutlook st task Over = Unit {0}
