-- The words and the slots that show a state, as lists.
use Rattle.std.specs.Prelude.{◌≡◌, ◌+◌, ◌*◌, ◌++◌, ◌<◌, ◌^◌, ℕ, zero, suc, ℤ, List, [], ◌∷◌, Option, Some}
use Rattle.machine_state.specs.declared.state.TaskRow.{TaskRow}
use Rattle.floor_laws.specs.declared.rule.view.TaskSlot.{TaskSlot}
use Rattle.floor_laws.specs.rule.Rows.{phase_of, slot_of}
use Rattle.floor_laws.specs.table.Layout.{free_word, new_word, value_of_word, word_of_phase}

-- the words that are not used behind the clock, a cell's word or the two words of a task
abbrev pub unused_words : List ℕ
unused_words = 0 ∷ 0 ∷ 0 ∷ 0 ∷ 0 ∷ 0 ∷ 0 ∷ []

-- the clock, and the words up to the first cell
abbrev pub head_words : ℕ → ℕ → List ℕ
head_words asked entries = (asked * 2 ^ 45 + entries) ∷ unused_words

-- each of these words in a line of its own
abbrev pub in_lines : List ℕ → List ℕ
in_lines [] = []
in_lines (word ∷ words) = word ∷ (unused_words ++ in_lines words)

-- each word is that of the value at its place
abbrev pub AreWordsOf : List ℤ → List ℕ → Type 0
AreWordsOf [] [] = Unit {0}
AreWordsOf [] (word ∷ words) = ⊥
AreWordsOf (value ∷ values) [] = ⊥
AreWordsOf (value ∷ values) (word ∷ words) = (word < 2 ^ 32) × (value_of_word word ≡ value) × AreWordsOf values words

-- the turn word and the phase word of each task, and the words up to the next task
abbrev pub made_words : List TaskRow → List ℕ
made_words [] = []
made_words (row ∷ rows) = free_word ∷ word_of_phase (phase_of row) ∷ (unused_words ++ made_words rows)

-- those of tasks that are not made
abbrev pub unmade_words : ℕ → List ℕ
unmade_words zero = []
unmade_words (suc n) = new_word ∷ 0 ∷ (unused_words ++ unmade_words n)

-- what the slot of a task that was made holds
abbrev pub held_slot : TaskRow → Option TaskSlot
held_slot row = Some (slot_of row)
