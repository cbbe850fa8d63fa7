-- How a floor starts.
use Rattle.std.specs.Prelude.{◌≡◌, ℕ, List, Option}
use Rattle.twe_base.specs.Limits.{Bounds}
use Rattle.twe_program.specs.Program.{Program}
use Rattle.machine_state.specs.declared.state.State.{State}
use Rattle.machine_state.specs.Runs.{IsRun}
use Rattle.seg_journal.specs.declared.numbered.NumberedEntry.{NumberedEntry}
use Rattle.seg_journal.specs.Merging.{journal_of, prints_of}
use Rattle.floor_laws.specs.declared.rule.view.TaskSlot.{TaskSlot}
use Rattle.floor_laws.specs.rule.Rule.{AreInOrder}
use Rattle.floor_laws.specs.table.Holds.{IsLaidOut}

-- the words and slots show the state of a run, whose entries are those of the log
pub record ShowsRun (p : Program) (lim : Bounds) (log : List NumberedEntry) (st : State) (words : List ℕ)
    (slots : List (Option TaskSlot)) : Type 0 where
  pub run : IsRun p lim (journal_of log) st
  pub order : AreInOrder log
  pub prints : st.prints ≡ prints_of log
  pub laid : IsLaidOut p lim log st words slots
