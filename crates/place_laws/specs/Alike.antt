-- Programs that run alike: what the one does, the other does too, but that a fault may have another place.
use Rattle.std.specs.Prelude.{◌≡◌, List, map}
use Rattle.twe_base.specs.Limits.{Bounds}
use Rattle.twe_program.specs.Program.{Program}
use Rattle.seg_journal.specs.declared.journal.Entry.{Entry}
use Rattle.machine_state.specs.declared.ending.Outcome.{Outcome}
use Rattle.machine_state.specs.declared.state.State.{State}
use Rattle.machine_state.specs.LowestFirst.{LowestFirst}
use Rattle.machine_state.specs.Runs.{IsOutcome, Legal, counted, state_after}
use Rattle.place_laws.specs.Bare.{bare_entry, bare_outcome, bare_state}

-- The states are equal but for the place of the first fault. They have the same cells, the same printed numbers, the same row of
-- each task, the same links, and as many makes that were asked for. In both the same task has met a first fault of the same kind,
-- or no task has met one.
abbrev pub SameStates : State → State → Type 0
SameStates st other = bare_state st ≡ bare_state other

-- the journals have the same moves in the same order, with the same ends but for the places of faults
abbrev pub SameEntries : List Entry → List Entry → Type 0
SameEntries journal other = map bare_entry journal ≡ map bare_entry other

-- the state has this outcome, but that a fault may have another place
abbrev pub EndsSo : State → Outcome → Type 0
EndsSo st outcome = (its : Outcome) × IsOutcome st its × (bare_outcome its ≡ bare_outcome outcome)

-- Program q has a legal journal that does what this one of p does: the same moves have the same ends, and lead to the same state.
-- So they do up to the first fault, and the outcome is the same, all but for the places of faults. If the journal is the
-- lowest-first one of p, then so is that of q.
pub record RunsAs (p q : Program) (lim : Bounds) (journal : List Entry) : Type 0 where
  pub its : List Entry
  pub legal : Legal q lim its
  pub entries : SameEntries its journal
  pub state : SameStates (state_after q lim its) (state_after p lim journal)
  pub counted_state : SameStates (state_after q lim (counted its)) (state_after p lim (counted journal))
  pub outcome : (outcome : Outcome) → IsOutcome (state_after p lim journal) outcome → EndsSo (state_after q lim its) outcome
  pub lowest : LowestFirst p lim journal → LowestFirst q lim its

-- what each legal journal of the one program does, one of the other does too, under the same limits
abbrev pub RunAlike : Program → Program → Type 0
RunAlike p q =
    (lim : Bounds) (journal : List Entry)
    → (Legal p lim journal → RunsAs p q lim journal) × (Legal q lim journal → RunsAs q p lim journal)
