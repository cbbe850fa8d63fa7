-- The words and slots that are laid out for a state show it.
use Rattle.std.proofs.Common.{◌≡◌, ◌+◌, ◌-◌, ◌*◌, ◌++◌, ◌<◌, ◌≤◌, ℕ, zero, suc, ℤ, List, [], ◌∷◌, length, map, drop, replicate, Option, None, refl, sym, ap, subst, ◌∙◌, arith, length-append, append_assoc}
use Rattle.std.specs.Prelude.{◌^◌, slice_get}
use mathlib.Core.Option as core
use lib.ListN.{get_elem?}
use Rattle.twe_base.specs.Limits.{Bounds}
use Rattle.twe_program.specs.Program.{Program, cell_count}
use Rattle.machine_state.specs.declared.state.State.{State}
use Rattle.machine_state.specs.declared.state.TaskRow.{TaskRow}
use Rattle.seg_journal.specs.declared.numbered.NumberedEntry.{NumberedEntry}
use Rattle.floor_laws.specs.declared.rule.view.TaskSlot.{TaskSlot}
use Rattle.floor_laws.specs.rule.Rows.{phase_of}
use Rattle.floor_laws.specs.rule.Steps.{phase_at_start}
use Rattle.floor_laws.specs.rule.Touches.{cell_at}
use Rattle.floor_laws.specs.table.Holds.{IsLaidOut, IsWordOf, slot_of_row, turn_word_of}
use Rattle.floor_laws.specs.table.Layout.{cell_place, free_word, new_word, phase_place, turn_place, value_of_word, word_of_phase}
use Rattle.task_floor.specs.steps.inner.Laying.{AreWordsOf, head_words, held_slot, in_lines, made_words, unmade_words, unused_words}

-- beyond the first of two lists
pub get_past : {A : Type 0} (a b : List A) (i j : ℕ) → i ≡ length a + j → get_elem? (a ++ b) i ≡ get_elem? b j
get_past [] b i j is = ap (get_elem? b) (is ∙ omega arith)
get_past (x ∷ a) b zero j is = absurd (omega (arith, is))
get_past (x ∷ a) b (suc i) j is = get_past a b i j (omega (arith, is))

-- Cells.

pub one_word_more : (values : List ℤ) (words : List ℕ) (value : ℤ) (word : ℕ) → AreWordsOf values words → word < 2 ^ 32 → value_of_word word ≡ value
    → AreWordsOf (values ++ value ∷ []) (words ++ word ∷ [])
one_word_more [] [] value word are small is = (small, is, tt)
one_word_more [] (w ∷ words) value word are small is = absurd are
one_word_more (v ∷ values) [] value word are small is = absurd are
one_word_more (v ∷ values) (w ∷ words) value word are small is = (are.0, are.1, one_word_more values words value word are.2 small is)

-- one word more, in a line of its own
pub one_line_more : (words : List ℕ) (word : ℕ) → in_lines (words ++ word ∷ []) ≡ in_lines words ++ (word ∷ unused_words)
one_line_more [] word = refl
one_line_more (w ∷ words) word = ap (λ (l : List ℕ). w ∷ (unused_words ++ l)) (one_line_more words word)

as_many : (values : List ℤ) (words : List ℕ) → AreWordsOf values words → length words ≡ length values
as_many [] [] are = refl
as_many [] (w ∷ words) are = absurd are
as_many (v ∷ values) [] are = absurd are
as_many (v ∷ values) (w ∷ words) are = ap suc (as_many values words are.2)

lines_count : (words : List ℕ) → length (in_lines words) ≡ 8 * length words
lines_count [] = omega arith
lines_count (w ∷ words) = let rest = lines_count words in omega (arith, rest)

word_there : (values : List ℤ) (words behind : List ℕ) (c : ℕ) → AreWordsOf values words → c < length values → IsWordOf (in_lines words ++ behind) (8 * c) (cell_at values c)
word_there [] words behind c are below = absurd (omega (arith, below))
word_there (v ∷ values) [] behind c are below = absurd are
word_there (v ∷ values) (w ∷ words) behind zero are below = record { word = w; there = refl; small = are.0; means = are.1 }
word_there (v ∷ values) (w ∷ words) behind (suc c) are below =
    let later = word_there values words behind c are.2 (omega (arith, below)) in
    record {
      word = later.word;
      there = get_past (w ∷ unused_words) (in_lines words ++ behind) (8 * suc c) (8 * c) (omega arith) ∙ later.there;
      small = later.small;
      means = later.means;
    }

-- The words of tasks.

-- those of a task that was made, up to the next task
abbrev made_one : TaskRow → List ℕ
made_one row = free_word ∷ word_of_phase (phase_of row) ∷ unused_words

-- those of a task that is not made
abbrev unmade_one : List ℕ
unmade_one = new_word ∷ 0 ∷ unused_words

made_count : (rows : List TaskRow) → length (made_words rows) ≡ 9 * length rows
made_count [] = omega arith
made_count (row ∷ rows) = let rest = made_count rows in omega (arith, rest)

unmade_count : (n : ℕ) → length (unmade_words n) ≡ 9 * n
unmade_count zero = omega arith
unmade_count (suc n) = let rest = unmade_count n in omega (arith, rest)

turn_unmade : (n t : ℕ) → t < n → get_elem? (unmade_words n) (9 * t) ≡ core.some (turn_word_of None)
turn_unmade zero t below = absurd (omega (arith, below))
turn_unmade (suc n) zero below = refl
turn_unmade (suc n) (suc t) below = get_past unmade_one (unmade_words n) (9 * suc t) (9 * t) (omega arith) ∙ turn_unmade n t (omega (arith, below))

turn_at : (rows : List TaskRow) (n t : ℕ) → t < length rows + n → get_elem? (made_words rows ++ unmade_words n) (9 * t) ≡ core.some (turn_word_of (slice_get rows t))
turn_at [] n t below = turn_unmade n t (omega (arith, below))
turn_at (row ∷ rows) n zero below = refl
turn_at (row ∷ rows) n (suc t) below = get_past (made_one row) (made_words rows ++ unmade_words n) (9 * suc t) (9 * t) (omega arith) ∙ turn_at rows n t (omega (arith, below))

phase_unmade : (n t : ℕ) → t < n → get_elem? (unmade_words n) (9 * t + 1) ≡ core.some (word_of_phase (phase_at_start None))
phase_unmade zero t below = absurd (omega (arith, below))
phase_unmade (suc n) zero below = refl
phase_unmade (suc n) (suc t) below = get_past unmade_one (unmade_words n) (9 * suc t + 1) (9 * t + 1) (omega arith) ∙ phase_unmade n t (omega (arith, below))

phase_at : (rows : List TaskRow) (n t : ℕ) → t < length rows + n → get_elem? (made_words rows ++ unmade_words n) (9 * t + 1) ≡ core.some (word_of_phase (phase_at_start (slice_get rows t)))
phase_at [] n t below = phase_unmade n t (omega (arith, below))
phase_at (row ∷ rows) n zero below = refl
phase_at (row ∷ rows) n (suc t) below =
    get_past (made_one row) (made_words rows ++ unmade_words n) (9 * suc t + 1) (9 * t + 1) (omega arith) ∙ phase_at rows n t (omega (arith, below))

-- one more task that is not made
pub unmade_more : (old new target : List ℕ) (count i : ℕ) → i < count → new ≡ old ++ unmade_one → old ++ unmade_words (count - i) ≡ target → new ++ unmade_words (count - (i + 1)) ≡ target
unmade_more old new target count i below new_is is =
    let behind : List ℕ = unmade_words (count - (i + 1)) in
    let next : count - i ≡ suc (count - (i + 1)) = omega (arith, below) in
    ap (λ (l : List ℕ). l ++ behind) new_is ∙ (append_assoc old unmade_one behind ∙ (ap (λ (n : ℕ). old ++ unmade_words n) (sym next) ∙ is))

-- Slots.

empty_at : (n t : ℕ) → t < n → get_elem? (replicate {A = Option TaskSlot} n None) t ≡ core.some None
empty_at zero t below = absurd (omega (arith, below))
empty_at (suc n) zero below = refl
empty_at (suc n) (suc t) below = empty_at n t (omega (arith, below))

slot_at : (rows : List TaskRow) (empties : List (Option TaskSlot)) (t : ℕ) → length rows ≤ length empties → ((k : ℕ) → k < length empties → get_elem? empties k ≡ core.some None)
    → t < length empties → get_elem? (map held_slot rows ++ drop (length rows) empties) t ≡ core.some (slot_of_row (slice_get rows t))
slot_at [] empties t size all below = all t below
slot_at (row ∷ rows) [] t size all below = absurd (omega (arith, below))
slot_at (row ∷ rows) (x ∷ empties) zero size all below = refl
slot_at (row ∷ rows) (x ∷ empties) (suc t) size all below =
    slot_at rows empties t (omega (arith, size)) (λ k low. all (suc k) (omega (arith, low))) (omega (arith, below))

slot_count : (rows : List TaskRow) (empties : List (Option TaskSlot)) → length rows ≤ length empties → length (map held_slot rows ++ drop (length rows) empties) ≡ length empties
slot_count [] empties size = refl
slot_count (row ∷ rows) [] size = absurd (omega (arith, size))
slot_count (row ∷ rows) (x ∷ empties) size = ap suc (slot_count rows empties (omega (arith, size)))

empty_count : (n : ℕ) → length (replicate {A = Option TaskSlot} n None) ≡ n
empty_count zero = refl
empty_count (suc n) = ap suc (empty_count n)

-- All of it.
module _ (p : Program) (lim : Bounds) (log : List NumberedEntry) (st : State) (entries : ℕ) (cells : List ℕ) (are : AreWordsOf st.cells cells) (count : entries ≡ length log)
    (size : length st.cells ≡ cell_count p) (few : length st.tasks ≤ lim.tasks) where
  abbrev tasks : List ℕ
  tasks = made_words st.tasks ++ unmade_words (lim.tasks - length st.tasks)

  abbrev whole : List ℕ
  whole = head_words st.asked entries ++ (in_lines cells ++ tasks)

  abbrev held : List (Option TaskSlot)
  held = map held_slot st.tasks ++ drop (length st.tasks) (replicate lim.tasks None)

  cells_count : length (in_lines cells) ≡ 8 * cell_count p
  cells_count = lines_count cells ∙ ap (λ (n : ℕ). 8 * n) (as_many st.cells cells are ∙ size)

  whole_count : length whole ≡ 8 + 8 * cell_count p + 9 * lim.tasks
  whole_count =
      let made = made_count st.tasks in
      let unmade = unmade_count (lim.tasks - length st.tasks) in
      let both = length-append (made_words st.tasks) (unmade_words (lim.tasks - length st.tasks)) in
      let all = length-append (in_lines cells) tasks in
      let own = cells_count in
      omega (arith, made, unmade, both, all, own, few)

  task_word : (i j : ℕ) → i ≡ 8 + 8 * cell_count p + j → get_elem? whole i ≡ get_elem? tasks j
  task_word i j is =
      let own = cells_count in
      get_past (head_words st.asked entries) (in_lines cells ++ tasks) i (8 * cell_count p + j) (omega (arith, is))
      ∙ get_past (in_lines cells) tasks (8 * cell_count p + j) j (omega (arith, own))

  cell_word : (c : ℕ) → c < cell_count p → IsWordOf whole (cell_place c) (cell_at st.cells c)
  cell_word c below =
      let word = word_there st.cells cells tasks c are (omega (arith, size, below)) in
      record {
        word = word.word;
        there = get_past (head_words st.asked entries) (in_lines cells ++ tasks) (cell_place c) (8 * c) refl ∙ word.there;
        small = word.small;
        means = word.means;
      }

  whole_laid : IsLaidOut p lim log st whole held
  whole_laid =
      let empties = empty_count lim.tasks in
      record {
        word_count = whole_count;
        slot_count = slot_count st.tasks (replicate lim.tasks None) (omega (arith, few, empties)) ∙ empties;
        clock = ap (λ (n : ℕ). core.some (st.asked * 2 ^ 45 + n)) count;
        cells = cell_word;
        turns = λ t below. task_word (turn_place p t) (9 * t) refl ∙ turn_at st.tasks (lim.tasks - length st.tasks) t (omega (arith, below, few));
        phases = λ t below. task_word (phase_place p t) (9 * t + 1) (omega arith) ∙ phase_at st.tasks (lim.tasks - length st.tasks) t (omega (arith, below, few));
        slots_are = λ t below.
            slot_at st.tasks (replicate lim.tasks None) t (omega (arith, few, empties)) (λ k low. empty_at lim.tasks k (omega (arith, low, empties))) (omega (arith, below, empties));
      }

  pub laid : (words : List ℕ) (slots : List (Option TaskSlot)) → words ≡ whole → slots ≡ held → IsLaidOut p lim log st words slots
  laid words slots words_are slots_are =
      subst (λ (w : List ℕ). IsLaidOut p lim log st w slots) (sym words_are) (subst (IsLaidOut p lim log st whole) (sym slots_are) whole_laid)
