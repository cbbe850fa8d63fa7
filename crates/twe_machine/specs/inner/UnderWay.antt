-- A replay under way.
use Rattle.twe_base.specs.Limits.{Bounds}
use Rattle.twe_program.specs.Program.{Program}
use Rattle.twe_machine.specs.declared.replaying.Replaying.{Replaying}
use Rattle.twe_machine.specs.Listings.{IsListing}
use Rattle.machine_state.specs.Runs.{IsRun}

-- the journal is legal and leads to the state, whose enabled tasks are known
pub record IsUnderWay (p : Program) (lim : Bounds) (run : Replaying) : Type 0 where
  pub is_run : IsRun p lim run.journal run.st
  pub listing : IsListing run.st run.enabled
