-- The lowest-first journal: while the run is unfinished, each entry is the move of the lowest-numbered task that has
-- a legal move.
use Rattle.std.specs.Prelude.{◌≡◌, ◌≢◌, ◌≤◌, List, [], ◌∷◌}
use Rattle.seg_journal.specs.declared.journal.Entry.{Entry}
use Rattle.seg_journal.specs.declared.moves.Move.{Move}
use Rattle.twe_base.specs.Limits.{Bounds}
use Rattle.twe_program.specs.Program.{Program}
use Rattle.machine_state.specs.declared.ending.Outcome.{Outcome}
use Rattle.machine_state.specs.declared.ending.Outcome.TheVariants.{Unfinished}
use Rattle.machine_state.specs.declared.state.State.{State}
use Rattle.machine_state.specs.Legal.{MayMove}
use Rattle.machine_state.specs.Moves.{move_result, start_of}
use Rattle.machine_state.specs.Runs.{IsOutcome}

-- the move is legal, and no task with a lower number has a legal move
pub record IsLowest (st : State) (mv : Move) : Type 0 where
  pub legal : MayMove st mv
  pub lowest : (other : Move) → MayMove st other → mv.task ≤ other.task

-- the run has ended: all tasks are done, or it is stuck, or some task has met a fault
abbrev pub IsOver : State → Type 0
IsOver st = (outcome : Outcome) → IsOutcome st outcome → outcome ≢ Unfinished

-- these entries are the lowest-first ones from a state on, up to a state in which the run has ended
abbrev pub LowestFirstFrom : Program → Bounds → State → List Entry → Type 0
LowestFirstFrom p lim st [] = IsOver st
LowestFirstFrom p lim st (entry ∷ entries) =
    IsOutcome st Unfinished × IsLowest st entry.mv × ((move_result p lim st entry.mv).1 ≡ entry.end)
    × LowestFirstFrom p lim (move_result p lim st entry.mv).0 entries

-- the journal is the lowest-first one of the program under these limits
abbrev pub LowestFirst : Program → Bounds → List Entry → Type 0
LowestFirst p lim journal = LowestFirstFrom p lim (start_of p lim) journal
