-- What a table that was closed at a quiet point says of the state beside its cells and slots.
use Rattle.std.specs.Prelude.{◌≡◌, ◌<◌, ◌≤◌, ℕ, List, [], ◌∷◌, length, Option, None}
use mathlib.Core.Option as core
use lib.ListN.{get_elem?}
use Rattle.twe_base.specs.Limits.{Bounds, IsWithin}
use Rattle.twe_program.specs.Program.{Program, cell_count}
use Rattle.twe_program.specs.WellFormed.{IsWellFormed}
use Rattle.machine_state.specs.declared.state.State.{State}
use Rattle.machine_state.specs.declared.state.TaskRow.{TaskRow}
use Rattle.machine_state.specs.Rows.{IsRow}
use Rattle.machine_state.specs.Runs.{state_after}
use Rattle.seg_journal.specs.Merging.{AreNumbered, journal_of}
use Rattle.floor_laws.specs.declared.rule.view.TaskSlot.{TaskSlot}
use Rattle.floor_laws.specs.rule.Rows.{phase_of}
use Rattle.floor_laws.specs.declared.table.view.View.{View}
use Rattle.floor_laws.specs.table.Holds.{Ended}
use Rattle.floor_laws.specs.table.Layout.{asked_of_clock, cell_words_from, clock_place, cache_line, number_at, phase_place, phase_word_at, word_count}

-- The words and slots are those of the program and the limits. The clock says how many tasks were asked for, the phase word of
-- each task is the one of its row, and the slots of tasks that are not made are empty.
pub record ShowsRest (p : Program) (lim : Bounds) (st : State) (words : List ℕ) (slots : List (Option TaskSlot)) : Type 0 where
  pub word_count : length words ≡ word_count p lim
  pub slot_count : length slots ≡ lim.tasks
  pub asked : asked_of_clock (number_at (get_elem? words clock_place)) ≡ st.asked
  pub cells : cell_words_from words cache_line (cell_count p) ≡ st.cells
  pub phases : (t : ℕ) (row : TaskRow) → IsRow st t row → phase_word_at (get_elem? words (phase_place p t)) ≡ phase_of row
  pub unmade : (t : ℕ) → length st.tasks ≤ t → t < lim.tasks → get_elem? slots t ≡ core.some None

-- After the seats were joined to one that has this view, and the table was closed: beside what `Ended` says, the entries of the
-- view have the numbers 0, 1 and so on, each once, and the table shows the rest of the state. The program is accepted.
pub record EndedQuiet (p : Program) (lim : Bounds) (v : View) (words : List ℕ) (slots : List (Option TaskSlot)) : Type 0 where
  pub well : IsWellFormed p
  pub within : IsWithin lim.fuel lim.tasks
  pub ended : Ended p lim v words slots
  pub numbered : AreNumbered (v.part ∷ [])
  pub rest : ShowsRest p lim (state_after p lim (journal_of ended.log)) words slots
