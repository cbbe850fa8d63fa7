-- What is left of a floor at a quiet point.
use Rattle.std.specs.Prelude.{◌≡◌, List}
use Rattle.twe_base.specs.Limits.{Bounds}
use Rattle.twe_program.specs.Program.{Program}
use Rattle.machine_state.specs.Runs.{IsRun}
use Rattle.seg_journal.specs.declared.numbered.NumberedEntry.{NumberedEntry}
use Rattle.seg_journal.specs.Merging.{IsMergeOf, journal_of, prints_of}
use Rattle.task_floor.specs.declared.steps.rest.Rest.{Rest}

-- The journal is the merge of these parts. It is legal, the state is the one that it leads to, and that state has printed what
-- the parts say.
pub record IsRestOf (p : Program) (lim : Bounds) (parts : List (List NumberedEntry)) (rest : Rest) : Type 0 where
  pub log : List NumberedEntry
  pub merge : IsMergeOf parts log
  pub journal : rest.journal ≡ journal_of log
  pub prints : rest.state.prints ≡ prints_of log
  pub run : IsRun p lim rest.journal rest.state
