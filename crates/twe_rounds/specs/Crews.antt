-- What contracts see of a crew, and what its calls do.
use Rattle.std.specs.Prelude.{◌≡◌, ◌<◌, ℕ, List, [], ◌∷◌, ◌++◌, length, Option, None, Some}
use mathlib.Core.List.{IsPrefix}
use Rattle.seg_journal.specs.declared.journal.Entry.{Entry}
use Rattle.seg_journal.specs.declared.moves.Move.{Move}
use Rattle.twe_base.specs.Limits.{Bounds}
use Rattle.twe_program.specs.Program.{Program}
use Rattle.machine_state.specs.declared.ending.Outcome.TheVariants as outcomes
use Rattle.machine_state.specs.declared.state.State.{State}
use Rattle.machine_state.specs.LowestFirst.{IsLowest}
use Rattle.machine_state.specs.Runs.{IsOutcome, Legal, entry_of, state_after}
use Rattle.flat_sched.specs.declared.ending.RunEnd.{RunEnd}
use Rattle.flat_sched.specs.declared.ending.RunEnd.TheVariants.{AllDone, Fault, Stuck, Unfinished}
use Rattle.flat_sched.specs.RunEnds.{IsRunEnd}

-- the program and the limits of a crew, how many workers it has, and its journal so far, or None once memory ran out
pub record CrewRun : Type 0 where
  pub prog : Program
  pub lim : Bounds
  pub workers : ℕ
  pub journal : Option (List Entry)

-- the crew with this journal
abbrev pub run_with_journal : CrewRun → List Entry → CrewRun
run_with_journal crew journal = record crew { journal = Some journal }

-- the crew has lost its run, since memory ran out
abbrev pub lost : CrewRun → CrewRun
lost crew = record crew { journal = None }

-- the state to which this journal of the crew leads
abbrev pub state_of : CrewRun → List Entry → State
state_of crew journal = state_after crew.prog crew.lim journal

-- what a quiet step does, by how the run stood before it: the step takes the lowest legal move, if the run can go on, and else
-- changes nothing
abbrev pub StepsFrom : CrewRun → CrewRun → List Entry → RunEnd → Type 0
StepsFrom old new journal AllDone = (new ≡ old) × IsRunEnd (state_of old journal) AllDone
StepsFrom old new journal (Fault task kind place) = (new ≡ old) × IsRunEnd (state_of old journal) (Fault task kind place)
StepsFrom old new journal (Stuck cycle) = (new ≡ old) × IsRunEnd (state_of old journal) (Stuck cycle)
StepsFrom old new journal Unfinished =
    IsOutcome (state_of old journal) outcomes.Unfinished
    × ((mv : Move) × IsLowest (state_of old journal) mv
    × (new ≡ run_with_journal old (journal ++ entry_of old.prog old.lim (state_of old journal) mv ∷ [])))

-- the crew had a journal, and the run stood so before the quiet step
abbrev pub StepsQuietly : CrewRun → CrewRun → RunEnd → Type 0
StepsQuietly old new end =
    (journal : List Entry) × (old.journal ≡ Some journal) × Legal old.prog old.lim journal
    × StepsFrom old new journal end

-- What a round does: the journal goes on and stays legal. If the run could go on, it is longer afterwards with a single worker,
-- and by `GrowsUnlessOver` with any number.
pub record GoesOn (old new : CrewRun) : Type 0 where
  pub journal : List Entry
  pub later : List Entry
  pub was : old.journal ≡ Some journal
  pub is : new ≡ run_with_journal old later
  pub legal : Legal old.prog old.lim later
  pub begins : IsPrefix journal later
  pub longer : old.workers ≡ 1 → IsOutcome (state_of old journal) outcomes.Unfinished → length journal < length later

-- if the run of the crew could go on, its journal is longer afterwards, whatever the number of workers
abbrev pub GrowsUnlessOver : CrewRun → CrewRun → Type 0
GrowsUnlessOver old new =
    (journal later : List Entry) → old.journal ≡ Some journal → new.journal ≡ Some later
    → IsOutcome (state_of old journal) outcomes.Unfinished
    → length journal < length later
