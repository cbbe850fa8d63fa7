-- What a quiet step does to a run.
use Rattle.std.specs.Prelude.{◌≡◌, [], ◌∷◌, ◌++◌}
use Rattle.seg_journal.specs.declared.moves.Move.{Move}
use Rattle.twe_base.specs.Limits.{Bounds}
use Rattle.twe_program.specs.Program.{Program}
use Rattle.machine_state.specs.declared.ending.Outcome.TheVariants as outcomes
use Rattle.machine_state.specs.LowestFirst.{IsLowest}
use Rattle.machine_state.specs.Runs.{IsOutcome, entry_of}
use Rattle.flat_sched.specs.declared.ending.RunEnd.{RunEnd}
use Rattle.flat_sched.specs.declared.ending.RunEnd.TheVariants.{AllDone, Fault, Stuck, Unfinished}
use Rattle.flat_sched.specs.RunEnds.{IsRunEnd}
use Rattle.opt_engine.specs.declared.core_run.CoreRun.{CoreRun}

-- by how the run stood: the step takes the lowest legal move, if the run can go on, and else changes nothing
abbrev pub StepsRun : Program → Bounds → CoreRun → CoreRun → RunEnd → Type 0
StepsRun p lim old new AllDone = (new ≡ old) × IsRunEnd old.state AllDone
StepsRun p lim old new (Fault task kind place) = (new ≡ old) × IsRunEnd old.state (Fault task kind place)
StepsRun p lim old new (Stuck cycle) = (new ≡ old) × IsRunEnd old.state (Stuck cycle)
StepsRun p lim old new Unfinished =
    IsOutcome old.state outcomes.Unfinished
    × ((mv : Move) × IsLowest old.state mv × (new.journal ≡ old.journal ++ entry_of p lim old.state mv ∷ []))
