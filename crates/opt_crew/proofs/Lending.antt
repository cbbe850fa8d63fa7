-- A run that is lent to workers again and again.
use Rattle.std.proofs.Common.{List}
use Rattle.seg_journal.specs.declared.journal.Entry.{Entry}
use Rattle.twe_base.specs.Limits.{Bounds}
use Rattle.twe_program.specs.Program.{Program}
use Rattle.twe_rounds.proofs.Beginnings.{prefix_self, prefix_trans}
use Rattle.opt_engine.specs.declared.core_run.CoreRun.{CoreRun}
use Rattle.opt_crew.specs.Keeping.{IsSound, Keeps}

module _ (p : Program) (lim : Bounds) where
  -- each sound run goes on from itself
  pub still_kept : (run : CoreRun) → IsSound p lim run → Keeps p lim run.journal run
  still_kept run sound = record { goes_on = record { run_is = sound.run_is; begins = prefix_self run.journal }; ends = sound.ends }

  -- a run that goes on is sound
  pub kept_sound : (earlier : List Entry) (run : CoreRun) → Keeps p lim earlier run → IsSound p lim run
  kept_sound earlier run keeps = record { run_is = keeps.goes_on.run_is; ends = keeps.ends }

  -- a run that has gone on twice has gone on
  pub kept_on : (earlier : List Entry) (mid new : CoreRun) → Keeps p lim earlier mid → Keeps p lim mid.journal new → Keeps p lim earlier new
  kept_on earlier mid new first second = record {
    goes_on = record {
      run_is = second.goes_on.run_is;
      begins = prefix_trans earlier mid.journal new.journal first.goes_on.begins second.goes_on.begins;
    };
    ends = second.ends;
  }
