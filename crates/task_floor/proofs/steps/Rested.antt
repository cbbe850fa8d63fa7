-- The journal that the parts of all stands merge to, and the state that a closed floor shows.
use Rattle.std.proofs.Common.{◌≡◌, ℤ, List, [], ◌∷◌, ℕ, sym, ap, subst, ◌∙◌}
use Rattle.std.proofs.lemmas.List.{append-nil}
use Rattle.seg_journal.specs.declared.journal.Entry.{Entry}
use Rattle.twe_base.specs.Limits.{Bounds, IsWithin}
use Rattle.twe_program.specs.Program.{Program}
use Rattle.twe_program.specs.WellFormed.{IsWellFormed}
use Rattle.machine_state.specs.Runs.{Legal, state_after}
use Rattle.seg_journal.specs.declared.numbered.NumberedEntry.{NumberedEntry}
use Rattle.seg_journal.specs.Merging.{AreNumbered, IsMergeOf, all_of, journal_of, prints_of}
use Rattle.floor_laws.specs.declared.rule.view.TaskSlot.{TaskSlot}
use Rattle.floor_laws.proofs.table.Alone.{one_merge}
use Rattle.floor_laws.proofs.table.Rests.{merge_same, numbered_same}
use Rattle.task_floor.specs.inner.Emptying.{EndedAfter, ShowsState}

-- the journal is legal, and the words and tasks show the state that it leads to
pub record ShowsJournal (p : Program) (lim : Bounds) (words : List ℕ) (tasks : List TaskSlot) (journal : List Entry) (prints : List ℤ) : Type 0 where
  pub well : IsWellFormed p
  pub within : IsWithin lim.fuel lim.tasks
  pub legal : Legal p lim journal
  pub shows : ShowsState p lim (state_after p lim journal) words tasks
  pub printed : prints ≡ (state_after p lim journal).prints

module _ (p : Program) (lim : Bounds) (parts : List (List NumberedEntry)) (words : List ℕ) (tasks : List TaskSlot) (after : EndedAfter p lim parts words tasks) where
  abbrev part : List NumberedEntry
  part = after.view.part

  same_all : all_of parts ≡ all_of (part ∷ [])
  same_all = after.entries ∙ sym (append-nil part)

  pub parts_numbered : AreNumbered parts
  parts_numbered = numbered_same parts (part ∷ []) same_all after.ended.quiet.numbered

  pub journal_shown : (journal : List Entry) (prints : List ℤ) (log : List NumberedEntry) → IsMergeOf parts log → journal ≡ journal_of log → prints ≡ prints_of log
      → ShowsJournal p lim words tasks journal prints
  journal_shown journal prints log merge journal_is prints_are =
      let quiet = after.ended.quiet in
      let own = quiet.ended in
      let one : log ≡ own.log = one_merge parts log own.log parts_numbered merge (merge_same parts (part ∷ []) own.log same_all own.merge) in
      let same : journal_of own.log ≡ journal = ap journal_of (sym one) ∙ sym journal_is in
      subst (λ (j : List Entry). ShowsJournal p lim words tasks j prints) same (record {
        well = quiet.well;
        within = quiet.within;
        legal = own.legal;
        shows = record { slots = after.ended.slots; end = own.shows; rest = quiet.rest; held = after.ended.held };
        printed = prints_are ∙ (ap prints_of one ∙ sym own.prints);
      })
