-- What the run of a crew keeps, whoever takes its moves.
use Rattle.std.specs.Prelude.{◌≡◌, List, Option, None, Some}
use Rattle.seg_journal.specs.declared.journal.Entry.{Entry}
use Rattle.twe_base.specs.Limits.{Bounds}
use Rattle.twe_program.specs.Program.{Program}
use Rattle.machine_state.specs.Runs.{IsRun, counted}
use Rattle.twe_rounds.specs.Keeping.{NoFaults}
use Rattle.opt_engine.specs.declared.core_run.CoreRun.{CoreRun}
use Rattle.opt_engine.specs.Verdicts.{RunGoesOn}

-- nothing comes after a fault
pub record EndsAtFault (run : CoreRun) : Type 0 where
  pub clear : run.state.first_fault ≡ None → NoFaults run.journal
  pub counts : counted run.journal ≡ run.journal

-- the same of the run of a core; None once memory ran out
abbrev pub StopsAtFault : Option CoreRun → Type 0
StopsAtFault None = Unit {0}
StopsAtFault (Some run) = EndsAtFault run

-- A run so far. Its journal is legal for the program under the limits, and leads to its state. Nothing comes after a fault.
pub record IsSound (p : Program) (lim : Bounds) (run : CoreRun) : Type 0 where
  pub run_is : IsRun p lim run.journal run.state
  pub ends : EndsAtFault run

-- The run is one of the program under the limits, and its journal begins with the journal from before the round. Nothing comes
-- after a fault.
pub record Keeps (p : Program) (lim : Bounds) (earlier : List Entry) (run : CoreRun) : Type 0 where
  pub goes_on : RunGoesOn p lim earlier run
  pub ends : EndsAtFault run

-- the journal of a crew, or None once memory ran out
abbrev pub crew_journal : Option CoreRun → Option (List Entry)
crew_journal None = None
crew_journal (Some run) = Some run.journal

-- the run of a crew is one of its program under its limits
abbrev pub CrewIsKept : Program → Bounds → Option CoreRun → Type 0
CrewIsKept p lim None = Unit {0}
CrewIsKept p lim (Some run) = IsSound p lim run
