-- Taking a legal move of a run.
use Rattle.std.specs.Prelude.{◌≡◌, ◌++◌, [], ◌∷◌}
use Rattle.seg_journal.specs.declared.moves.Move.{Move}
use Rattle.twe_base.specs.Limits.{Bounds}
use Rattle.twe_program.specs.Program.{Program}
use Rattle.machine_state.specs.Moves.{move_result}
use Rattle.machine_state.specs.Runs.{IsRun, entry_of}
use Rattle.opt_engine.specs.declared.core_run.CoreRun.{CoreRun}

-- the run took this move: its entry comes after the others, and the state is the one after the move
pub record TakingSteps (p : Program) (lim : Bounds) (old : CoreRun) (mv : Move) (new : CoreRun) : Type 0 where
  pub run_is : IsRun p lim new.journal new.state
  pub journal : new.journal ≡ old.journal ++ entry_of p lim old.state mv ∷ []
  pub state : new.state ≡ (move_result p lim old.state mv).0
