-- What a floor needs to go on from the state of a run: the clock can count, the slots suffice, and all of the state is shown.
use Rattle.std.proofs.Common.{◌≡◌, ◌-◌, ◌++◌, ◌<◌, ◌≤◌, ℕ, List, length, map, drop, replicate, Option, None, sym, ap, subst, ◌∙◌, arith}
use Rattle.std.specs.Prelude.{◌^◌}
use Rattle.seg_journal.specs.declared.journal.Entry.{Entry}
use Rattle.twe_base.specs.Limits.{Bounds, IsWithin}
use Rattle.twe_program.specs.Program.{Program, cell_count}
use Rattle.twe_program.specs.WellFormed.{IsWellFormed}
use Rattle.machine_state.specs.declared.state.State.{State}
use Rattle.machine_state.specs.Runs.{IsReached, IsRun, Legal, state_after}
use Rattle.machine_state.proofs.standing.ReachedStands.{reached_stands}
use Rattle.machine_state.proofs.standing.Standing.{Stands}
use Rattle.seg_journal.specs.declared.numbered.NumberedEntry.{NumberedEntry}
use Rattle.seg_journal.specs.Merging.{journal_of}
use Rattle.floor_laws.specs.declared.rule.view.TaskSlot.{TaskSlot}
use Rattle.floor_laws.proofs.table.Clock.{asked_few, entries_few}
use Rattle.task_floor.specs.steps.Opening.{ShowsRun}
use Rattle.task_floor.specs.steps.Waking.{log_of}
use Rattle.task_floor.specs.steps.inner.Laying.{AreWordsOf, head_words, held_slot, in_lines, made_words, unmade_words}
use Rattle.task_floor.proofs.steps.Laid.{laid}
use Rattle.task_floor.proofs.steps.Logs.{log_journal, log_length, log_order, log_prints}

module _ (p : Program) (lim : Bounds) (well : IsWellFormed p) (within : IsWithin lim.fuel lim.tasks) (journal : List Entry) (st : State) (run : IsRun p lim journal st) where
  reached : IsReached p lim st
  reached = record { journal = journal; legal = run.legal; same = run.same }

  stands : Stands p lim st
  stands = reached_stands p lim st well reached

  pub tasks_few : length st.tasks ≤ lim.tasks
  tasks_few = stands.limit within.tasks_least

  pub cells_many : length st.cells ≡ cell_count p
  cells_many = stands.cells

  abbrev log : List NumberedEntry
  log = log_of journal st.prints

  same_journal : journal_of log ≡ journal
  same_journal = log_journal journal st.prints

  log_legal : Legal p lim (journal_of log)
  log_legal = subst (Legal p lim) (sym same_journal) run.legal

  pub clock_few : (st.asked < 2 ^ 19) × (length journal < 2 ^ 45)
  clock_few =
      let asked = asked_few p lim st well within reached in
      let entries = entries_few p lim log well within log_legal in
      let count = log_length journal st.prints in
      (omega (arith, asked), omega (arith, entries, count))

  pub shows_run : (part : List NumberedEntry) (words cells : List ℕ) (slots : List (Option TaskSlot)) (entries count : ℕ) → part ≡ log_of journal st.prints → entries ≡ length journal → count ≡ lim.tasks
      → AreWordsOf st.cells cells → words ≡ head_words st.asked entries ++ (in_lines cells ++ (made_words st.tasks ++ unmade_words (count - length st.tasks)))
      → slots ≡ map held_slot st.tasks ++ drop (length st.tasks) (replicate count None) → ShowsRun p lim part st words slots
  shows_run part words cells slots entries count part_is entries_are count_is are words_are slots_are =
      subst (λ (l : List NumberedEntry). ShowsRun p lim l st words slots) (sym part_is) (record {
        run = record { legal = log_legal; same = run.same ∙ ap (state_after p lim) (sym same_journal) };
        order = log_order journal st.prints;
        prints = log_prints p lim journal st run;
        laid =
            laid p lim log st entries cells are (entries_are ∙ sym (log_length journal st.prints)) cells_many tasks_few words slots
            (words_are ∙ ap (λ (n : ℕ). head_words st.asked entries ++ (in_lines cells ++ (made_words st.tasks ++ unmade_words (n - length st.tasks)))) count_is)
            (slots_are ∙ ap (λ (n : ℕ). map held_slot st.tasks ++ drop (length st.tasks) (replicate n None)) count_is);
      })
