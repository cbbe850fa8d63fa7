-- The runs that the laws speak of: journals of programs that are well formed and keep the rules on effects.
use Rattle.std.specs.Prelude.{List}
use Rattle.twe_base.specs.Limits.{Bounds}
use Rattle.seg_journal.specs.declared.journal.Entry.{Entry}
use Rattle.twe_program.specs.Program.{Program}
use Rattle.twe_program.specs.WellFormed.{IsWellFormed}
use Rattle.isolation_laws.specs.soundness.KeepsEffects.{KeepsEffects}
use Rattle.machine_state.specs.Runs.{Legal}

-- The journal is one of a run of the program under these limits, whoever made it: it is legal, and the program is well formed and
-- keeps the rules on effects. Programs of accepted texts do.
pub record IsAcceptedRun (p : Program) (lim : Bounds) (journal : List Entry) : Type 0 where
  pub well_formed : IsWellFormed p
  pub keeps : KeepsEffects p
  pub legal : Legal p lim journal
