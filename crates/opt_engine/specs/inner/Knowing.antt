-- A core knows the enabled tasks of its run.
use Rattle.std.specs.Prelude.{Option, None, Some}
use Rattle.twe_machine.specs.declared.enabled_tasks.EnabledTasks.{EnabledTasks}
use Rattle.twe_machine.specs.Listings.{IsListing}
use Rattle.opt_engine.specs.declared.core_run.CoreRun.{CoreRun}

-- these are the enabled tasks of the state to which the run leads; nothing is said once memory ran out
abbrev pub KnowsEnabled : Option CoreRun → EnabledTasks → Type 0
KnowsEnabled None enabled = Unit {0}
KnowsEnabled (Some run) enabled = IsListing run.state enabled
