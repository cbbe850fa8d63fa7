-- How a floor starts with the nodes of the tree.
use Rattle.std.specs.Prelude.{◌≡◌, ℕ, List}
use Rattle.region_paths.specs.declared.elements.Elem.{Elem}
use Rattle.twe_base.specs.Limits.{Bounds}
use Rattle.twe_program.specs.Program.{Program}
use Rattle.machine_state.specs.declared.state.State.{State}
use Rattle.machine_state.specs.Runs.{IsRun}
use Rattle.seg_journal.specs.declared.numbered.NumberedEntry.{NumberedEntry}
use Rattle.seg_journal.specs.Merging.{journal_of, prints_of}
use Rattle.floor_laws.specs.rule.Rule.{AreInOrder}
use Rattle.floor_laws.specs.admission.admission_core.States.{Record}
use Rattle.floor_laws.specs.rule.nodes.Starts.{AreOfEnabled}
use Rattle.floor_laws.specs.declared.table.nodes.slot.TreeSlot.{TreeSlot}
use Rattle.floor_laws.specs.table.nodes.Holds.{IsTreeLaidOut}

-- the words and slots show the state of a run, whose entries are those of the log, and the records, which are those of its
-- enabled tasks
pub record ShowsTreeRun (nodes : List (List Elem)) (p : Program) (lim : Bounds) (log : List NumberedEntry) (st : State)
    (records : List Record) (words : List ℕ) (slots : List TreeSlot) : Type 0 where
  pub run : IsRun p lim (journal_of log) st
  pub order : AreInOrder log
  pub prints : st.prints ≡ prints_of log
  pub enabled : AreOfEnabled nodes st records
  pub laid : IsTreeLaidOut nodes p lim log st records words slots
