-- A lowest-first run on its way.
use Rattle.std.specs.Prelude.{◌≡◌, List, [], ◌∷◌}
use Rattle.seg_journal.specs.declared.journal.Entry.{Entry}
use Rattle.twe_base.specs.Limits.{Bounds}
use Rattle.twe_program.specs.Program.{Program}
use Rattle.machine_state.specs.declared.ending.Outcome.TheVariants.{Unfinished}
use Rattle.machine_state.specs.declared.state.State.{State}
use Rattle.machine_state.specs.LowestFirst.{IsLowest}
use Rattle.machine_state.specs.Moves.{move_result, start_of}
use Rattle.machine_state.specs.Runs.{IsOutcome}

-- from a state on, each of these entries is the move of the lowest-numbered task that has one, in a run that was unfinished
abbrev pub LowestSoFarFrom : Program → Bounds → State → List Entry → Type 0
LowestSoFarFrom p lim st [] = Unit {0}
LowestSoFarFrom p lim st (entry ∷ entries) =
    IsOutcome st Unfinished × IsLowest st entry.mv × ((move_result p lim st entry.mv).1 ≡ entry.end)
    × LowestSoFarFrom p lim (move_result p lim st entry.mv).0 entries

-- the journal is a beginning of the lowest-first one, or all of it
abbrev pub LowestSoFar : Program → Bounds → List Entry → Type 0
LowestSoFar p lim journal = LowestSoFarFrom p lim (start_of p lim) journal
