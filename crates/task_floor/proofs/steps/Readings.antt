-- What was read from the words and tasks of a quiet floor is the state that they show.
use Rattle.std.proofs.Common.{◌≡◌, ◌+◌, ◌*◌, ◌++◌, ◌||◌, ◌<◌, ◌≤◌, ℕ, zero, suc, ℤ, Bool, true, false, not, if◌then◌else◌, List, [], ◌∷◌, length, map, take, drop, get_or, Option, None, Some, refl, sym, ap, subst, ◌∙◌, append_assoc, arith}
use Rattle.std.specs.Prelude.{◌^◌, slice_get, slice_set}
use mathlib.Core.Option as core
use mathlib.Core.Option.{some-injective, some-ne-none}
use lib.ListN.{get_elem?}
use Rattle.std.proofs.lemmas.List.{length-map}
use Rattle.std.proofs.lemmas.Option.{slice_get-get_or}
use Rattle.machine_state.proofs.links.Ordered.{reached_ordered}
use Rattle.machine_state.proofs.lists.Members.{IsIn, any_in, in_contains}
use Rattle.machine_state.proofs.lists.Places.{map_index}
use Rattle.machine_state.proofs.standing.ReachedStands.{reached_stands}
use Rattle.machine_state.proofs.standing.Standing.{IsChild}
use Rattle.wait_graph.specs.declared.tasks.Link.{Link}
use Rattle.wait_graph.specs.Link.{IsOrdered, link_of, new_link, with_done, with_joined, with_wait}
use Rattle.twe_base.specs.Limits.{Bounds, IsWithin}
use Rattle.twe_program.specs.Program.{Program, cell_count}
use Rattle.twe_program.specs.WellFormed.{IsWellFormed}
use Rattle.machine_state.specs.declared.state.FirstFault.{FirstFault}
use Rattle.machine_state.specs.declared.state.State.{State}
use Rattle.machine_state.specs.declared.state.TaskRow.{TaskRow}
use Rattle.machine_state.specs.Rows.{IsRow, link_of_row}
use Rattle.machine_state.specs.Runs.{IsReached}
use Rattle.floor_laws.specs.declared.rule.view.Phase.{Phase}
use Rattle.floor_laws.specs.declared.rule.view.TaskSlot.{TaskSlot}
use Rattle.floor_laws.specs.rule.Rows.{slot_of}
use Rattle.floor_laws.specs.rule.Shown.{has_child, is_joined, is_unjoined, row_by}
use Rattle.floor_laws.proofs.rule.Puts.{none_some, some_one}
use Rattle.floor_laws.proofs.rule.ShownRows.{row_shown}
use Rattle.floor_laws.specs.table.Layout.{asked_of_clock, cell_place, cell_words_from, number_at, phase_word_at, value_of_word, word_count}
use Rattle.floor_laws.proofs.table.nodes.Elements.{take_there}
use Rattle.task_floor.specs.inner.Emptying.{ShowsState}
use Rattle.task_floor.specs.steps.inner.Reading.{fresh_link, held_in, joined_unless, links_to, rows_from}

-- Cells.

pub cells_more : (words : List ℕ) (place n : ℕ) → cell_words_from words place (n + 1) ≡ cell_words_from words place n ++ value_of_word (number_at (get_elem? words (place + 8 * n))) ∷ []
cells_more words place n = ap (cell_words_from words place) next ∙ by place n
  where
    next : n + 1 ≡ suc n
    next = omega arith

    by : (from count : ℕ) → cell_words_from words from (suc count) ≡ cell_words_from words from count ++ value_of_word (number_at (get_elem? words (from + 8 * count))) ∷ []
    by from zero = ap (λ (i : ℕ). value_of_word (number_at (get_elem? words i)) ∷ []) (omega arith)
    by from (suc count) =
        let place_is : (from + 8) + 8 * count ≡ from + 8 * suc count = omega arith in
        ap (λ (l : List ℤ). value_of_word (number_at (get_elem? words from)) ∷ l)
        (by (from + 8) count ∙ ap (λ (i : ℕ). cell_words_from words (from + 8) count ++ value_of_word (number_at (get_elem? words i)) ∷ []) place_is)

pub cells_step : (words : List ℕ) (n : ℕ) (cells new : List ℤ) (value : ℤ) → cells ≡ cell_words_from words 8 n → new ≡ cells ++ value ∷ [] → value ≡ value_of_word (number_at (get_elem? words (8 + 8 * n)))
    → new ≡ cell_words_from words 8 (n + 1)
cells_step words n cells new value before is value_is =
    is ∙ (ap (λ (l : List ℤ). l ++ value ∷ []) before ∙ (ap (λ (x : ℤ). cell_words_from words 8 n ++ x ∷ []) value_is ∙ sym (cells_more words 8 n)))

-- Marks.

or_assoc : (a b c : Bool) → (a || b) || c ≡ a || (b || c)
or_assoc true b c = refl
or_assoc false b c = refl

or_false : (b : Bool) → b || false ≡ b
or_false true = refl
or_false false = refl

pub unjoined_more : (c : ℕ) (tasks : List TaskSlot) (x : TaskSlot) → is_unjoined c (tasks ++ x ∷ []) ≡ is_unjoined c tasks || has_child c x
unjoined_more c [] x = or_false (has_child c x)
unjoined_more c (task ∷ tasks) x = ap (λ (b : Bool). has_child c task || b) (unjoined_more c tasks x) ∙ sym (or_assoc (has_child c task) (is_unjoined c tasks) (has_child c x))

-- if none of the tasks from the n-th on has c as an unjoined child, those before tell whether one has
early_tell : (c n : ℕ) (rows : List TaskRow) → ((k : ℕ) (row : TaskRow) → n ≤ k → slice_get rows k ≡ Some row → has_child c (slot_of row) ≡ false)
    → is_unjoined c (take n (map slot_of rows)) ≡ is_unjoined c (map slot_of rows)
early_tell c zero [] late = refl
early_tell c (suc n) [] late = refl
early_tell c zero (row ∷ rows) late =
    early_tell c zero rows (λ k r past there. late (suc k) r (omega arith) there) ∙ ap (λ (b : Bool). b || is_unjoined c (map slot_of rows)) (sym (late 0 row (omega arith) refl))
early_tell c (suc n) (row ∷ rows) late =
    ap (λ (b : Bool). has_child c (slot_of row) || b) (early_tell c n rows (λ k r past there. late (suc k) r (omega (arith, past)) there))

-- the tasks so far and those that are left, after one more
pub drop_more : (l : List TaskSlot) (t : ℕ) (x : TaskSlot) (left : List TaskSlot) → drop t l ≡ x ∷ left → drop (t + 1) l ≡ left
drop_more l t x left is = ap (λ (n : ℕ). drop n l) next ∙ by l t is
  where
    next : t + 1 ≡ suc t
    next = omega arith

    by : (xs : List TaskSlot) (n : ℕ) → drop n xs ≡ x ∷ left → drop (suc n) xs ≡ left
    by [] zero here = absurd (cc (here))
    by [] (suc n) here = absurd (cc (here))
    by (y ∷ xs) zero here = cc
    by (y ∷ xs) (suc n) here = by xs n here

pub take_more : (l : List TaskSlot) (t : ℕ) (x : TaskSlot) (left : List TaskSlot) → drop t l ≡ x ∷ left → take (t + 1) l ≡ take t l ++ x ∷ []
take_more l t x left is = ap (λ (n : ℕ). take n l) next ∙ by l t is
  where
    next : t + 1 ≡ suc t
    next = omega arith

    by : (xs : List TaskSlot) (n : ℕ) → drop n xs ≡ x ∷ left → take (suc n) xs ≡ take n xs ++ x ∷ []
    by [] zero here = absurd (cc (here))
    by [] (suc n) here = absurd (cc (here))
    by (y ∷ xs) zero here = let same : y ≡ x = cc in ap (λ (z : TaskSlot). z ∷ []) same
    by (y ∷ xs) (suc n) here = ap (λ (zs : List TaskSlot). y ∷ zs) (by xs n here)

-- Slots.

-- the slots are those of these tasks, and then empty
pub record AreSlotsOf (rows : List TaskRow) (slots : List (Option TaskSlot)) : Type 0 where
  pub made : (t : ℕ) (row : TaskRow) → slice_get rows t ≡ Some row → get_elem? slots t ≡ core.some (Some (slot_of row))
  pub unmade : (t : ℕ) → length rows ≤ t → t < length slots → get_elem? slots t ≡ core.some None

slots_later : (row : TaskRow) (rows : List TaskRow) (slot : Option TaskSlot) (slots : List (Option TaskSlot)) → AreSlotsOf (row ∷ rows) (slot ∷ slots) → AreSlotsOf rows slots
slots_later row rows slot slots are = record {
  made = λ t r there. are.made (suc t) r there;
  unmade = λ t past below. are.unmade (suc t) (omega (arith, past)) (omega (arith, below));
}

empty_later : (slot : Option TaskSlot) (slots : List (Option TaskSlot)) → AreSlotsOf [] (slot ∷ slots) → AreSlotsOf [] slots
empty_later slot slots are = record {
  made = λ t r there. absurd (none_some there);
  unmade = λ t past below. are.unmade (suc t) (omega arith) (omega (arith, below));
}

pub held_is : (rows : List TaskRow) (slots : List (Option TaskSlot)) → AreSlotsOf rows slots → held_in slots ≡ map slot_of rows
held_is [] [] are = refl
held_is (row ∷ rows) [] are = absurd (some-ne-none (Some (slot_of row)) (sym (are.made 0 row refl)))
held_is [] (None ∷ slots) are = held_is [] slots (empty_later None slots are)
held_is [] (Some slot ∷ slots) are = absurd (none_some (sym (some-injective (Some slot) None (are.unmade 0 (omega arith) (omega arith)))))
held_is (row ∷ rows) (None ∷ slots) are = absurd (none_some (some-injective None (Some (slot_of row)) (are.made 0 row refl)))
held_is (row ∷ rows) (Some slot ∷ slots) are =
    let first : slot ≡ slot_of row = some_one (some-injective (Some slot) (Some (slot_of row)) (are.made 0 row refl)) in
    let rest = held_is rows slots (slots_later row rows (Some slot) slots are) in
    λ i. first i ∷ rest i

-- the words and `all` say the rows of these tasks, which are numbered from k on
pub record SayRows (words : List ℕ) (first : ℕ) (all : List TaskSlot) (k : ℕ) (rows : List TaskRow) : Type 0 where
  pub are : (t n : ℕ) (row : TaskRow) → n ≡ k + t → slice_get rows t ≡ Some row → row ≡ row_by (slot_of row) (phase_word_at (get_elem? words (first + 9 * n + 1))) (is_joined n row.parent all)
  pub early : (n : ℕ) → is_unjoined n (take n all) ≡ is_unjoined n all

-- who is joined, in two forms
joined_same : (c : ℕ) (parent : Option ℕ) (all : List TaskSlot) → joined_unless parent (is_unjoined c all) ≡ is_joined c parent all
joined_same c None all = refl
joined_same c (Some q) all = by (is_unjoined c all)
  where
    by : (b : Bool) → not b ≡ (if b then false else true)
    by true = refl
    by false = refl

pub rows_are : (words : List ℕ) (first : ℕ) (all : List TaskSlot) (k : ℕ) (rows : List TaskRow) → SayRows words first all k rows → rows_from words first all k (map slot_of rows) ≡ rows
rows_are words first all k [] say = refl
rows_are words first all k (row ∷ rows) say =
    let here =
    ap (row_by (slot_of row) (phase_word_at (get_elem? words (first + 9 * k + 1)))) (ap (joined_unless row.parent) (say.early k) ∙ joined_same k row.parent all)
    ∙ sym (say.are 0 k row (omega arith) refl) in
    let rest = rows_are words first all (k + 1) rows (record { are = λ t n r is there. say.are (suc t) n r (omega (arith, is)) there; early = say.early }) in
    λ i. here i ∷ rest i

-- the row of one task more
pub rows_step : (words : List ℕ) (first : ℕ) (all : List TaskSlot) (t : ℕ) (task : TaskSlot) (tasks : List TaskSlot) (phase : Phase) (mark : Bool) (rows new target : List TaskRow) (row : TaskRow)
    → t ≡ length rows → phase ≡ phase_word_at (get_elem? words (first + 9 * t + 1)) → mark ≡ is_unjoined t (take t all) → row ≡ row_by task phase (joined_unless task.parent mark) → new ≡ rows ++ row ∷ []
    → rows ++ rows_from words first all (length rows) (task ∷ tasks) ≡ target → new ++ rows_from words first all (length new) tasks ≡ target
rows_step words first all t task tasks phase mark rows new target row t_is phase_is mark_is row_is is before =
    let more : length new ≡ t + 1 = ap length is ∙ (length_one rows row ∙ ap (λ (n : ℕ). n + 1) (sym t_is)) in
    let behind : List TaskRow = rows_from words first all (t + 1) tasks in
    let same : row ≡ row_by task (phase_word_at (get_elem? words (first + 9 * t + 1))) (joined_unless task.parent (is_unjoined t (take t all))) =
    row_is
    ∙ (ap (λ (ph : Phase). row_by task ph (joined_unless task.parent mark)) phase_is
    ∙ ap (λ (b : Bool). row_by task (phase_word_at (get_elem? words (first + 9 * t + 1))) (joined_unless task.parent b)) mark_is) in
    ap (λ (n : ℕ). new ++ rows_from words first all n tasks) more
    ∙ (ap (λ (l : List TaskRow). l ++ behind) is
    ∙ (append_assoc rows (row ∷ []) behind
    ∙ (ap (λ (r : TaskRow). rows ++ r ∷ behind) same
    ∙ (ap (λ (n : ℕ). rows ++ rows_from words first all n (task ∷ tasks)) t_is ∙ before))))
  where
    length_one : (l : List TaskRow) (x : TaskRow) → length (l ++ x ∷ []) ≡ length l + 1
    length_one [] x = refl
    length_one (y ∷ l) x = let more = length_one l x in omega (arith, more)

-- Links.

-- the row that a loop has come to
pub item_there : (rows : List TaskRow) (t : ℕ) (row : TaskRow) → t < length rows → row ≡ get_or rows t row → slice_get rows t ≡ Some row
item_there rows t row below is = slice_get-get_or rows t row below ∙ ap Some (sym is)

pub link_there : (rows : List TaskRow) (t : ℕ) (row : TaskRow) → t < length rows → row ≡ get_or rows t row → link_of (map link_of_row rows) t ≡ link_of_row row
link_there rows t row below is = map_index link_of_row rows t row (new_link None) (item_there rows t row below is)

pub fresh_count : (rows : List TaskRow) (n : ℕ) → n < length rows → length (map fresh_link (take n rows)) ≡ n
fresh_count rows n below = length-map (take n rows) fresh_link ∙ by rows n below
  where
    by : (l : List TaskRow) (k : ℕ) → k < length l → length (take k l) ≡ k
    by [] k low = absurd (omega (arith, low))
    by (r ∷ l) zero low = refl
    by (r ∷ l) (suc k) low = ap suc (by l k (omega (arith, low)))

pub links_count : (t : ℕ) (rows : List TaskRow) → length (links_to t rows) ≡ length rows
links_count zero rows = length-map rows fresh_link
links_count (suc t) [] = refl
links_count (suc t) (row ∷ rows) = ap suc (links_count t rows)

pub fresh_here : (t : ℕ) (rows : List TaskRow) (row : TaskRow) → slice_get rows t ≡ Some row → link_of (links_to t rows) t ≡ new_link row.parent
fresh_here zero [] row is = absurd (none_some is)
fresh_here zero (r ∷ rows) row is = ap fresh_link (some_one is)
fresh_here (suc t) [] row is = absurd (none_some is)
fresh_here (suc t) (r ∷ rows) row is = fresh_here t rows row is

pub set_here : (t : ℕ) (rows : List TaskRow) (row : TaskRow) → slice_get rows t ≡ Some row → slice_set (links_to t rows) t (link_of_row row) ≡ links_to (suc t) rows
set_here zero [] row is = absurd (none_some is)
set_here zero (r ∷ rows) row is = ap (λ (x : TaskRow). link_of_row x ∷ map fresh_link rows) (sym (some_one is))
set_here (suc t) [] row is = absurd (none_some is)
set_here (suc t) (r ∷ rows) row is = ap (λ (l : List Link). link_of_row r ∷ l) (set_here t rows row is)

pub links_all : (n : ℕ) (rows : List TaskRow) → length rows ≤ n → links_to n rows ≡ map link_of_row rows
links_all zero [] past = refl
links_all zero (row ∷ rows) past = absurd (omega (arith, past))
links_all (suc n) [] past = refl
links_all (suc n) (row ∷ rows) past = ap (λ (l : List Link). link_of_row row ∷ l) (links_all n rows (omega (arith, past)))

link_set : (links : List Link) (t : ℕ) (x : Link) → t < length links → link_of (slice_set links t x) t ≡ x
link_set [] t x below = absurd (omega (arith, below))
link_set (l ∷ links) zero x below = refl
link_set (l ∷ links) (suc t) x below = link_set links t x (omega (arith, below))

set_twice : (links : List Link) (t : ℕ) (x y : Link) → slice_set (slice_set links t x) t y ≡ slice_set links t y
set_twice [] t x y = refl
set_twice (l ∷ links) zero x y = refl
set_twice (l ∷ links) (suc t) x y = ap (λ (ls : List Link). l ∷ ls) (set_twice links t x y)

-- the waits and the marks of task t are set, one after another
module _ (links : List Link) (t : ℕ) (below : t < length links) (parent on : Option ℕ) (fresh : link_of links t ≡ new_link parent) where
  abbrev link_with : Bool → Bool → Link
  link_with joined done = record { waits = on; parent = parent; joined = joined; done = done }

  waiting : with_wait links t on ≡ slice_set links t (link_with false false)
  waiting = ap (λ (l : Link). slice_set links t (record l { waits = on })) fresh

  marked : (x : Link) → with_joined (slice_set links t x) t ≡ slice_set links t (record x { joined = true })
  marked x = ap (λ (l : Link). slice_set (slice_set links t x) t (record l { joined = true })) (link_set links t x below) ∙ set_twice links t x (record x { joined = true })

  finished : (x : Link) → with_done (slice_set links t x) t ≡ slice_set links t (record x { done = true })
  finished x = ap (λ (l : Link). slice_set (slice_set links t x) t (record l { done = true })) (link_set links t x below) ∙ set_twice links t x (record x { done = true })

  joined_set : (joined : Bool) (after : List Link) → after ≡ (if joined then with_joined (with_wait links t on) t else with_wait links t on) → after ≡ slice_set links t (link_with joined false)
  joined_set true after is = is ∙ (ap (λ (ls : List Link). with_joined ls t) waiting ∙ marked (link_with false false))
  joined_set false after is = is ∙ waiting

  pub all_set : (joined done : Bool) (after last : List Link) → after ≡ (if joined then with_joined (with_wait links t on) t else with_wait links t on)
      → last ≡ (if done then with_done after t else after) → last ≡ slice_set links t (link_with joined done)
  all_set joined true after last is last_is = last_is ∙ (ap (λ (ls : List Link). with_done ls t) (joined_set joined after is) ∙ finished (link_with joined false))
  all_set joined false after last is last_is = last_is ∙ joined_set joined after is

-- Words behind those of the floor say nothing of it.

pub cells_within : (words : List ℕ) (n place count : ℕ) → place + 8 * count ≤ n → cell_words_from (take n words) place count ≡ cell_words_from words place count
cells_within words n place zero within = refl
cells_within words n place (suc count) within =
    let here : value_of_word (number_at (get_elem? (take n words) place)) ≡ value_of_word (number_at (get_elem? words place)) =
    ap (λ (o : core.Option ℕ). value_of_word (number_at o)) (take_there words n place (omega (arith, within))) in
    let rest = cells_within words n (place + 8) count (omega (arith, within)) in
    λ i. here i ∷ rest i

pub rows_within : (words : List ℕ) (n first : ℕ) (all : List TaskSlot) (t : ℕ) (tasks : List TaskSlot) → first + 9 * (t + length tasks) ≤ n
    → rows_from (take n words) first all t tasks ≡ rows_from words first all t tasks
rows_within words n first all t [] within = refl
rows_within words n first all t (task ∷ tasks) within =
    let here =
    ap (λ (o : core.Option ℕ). row_by task (phase_word_at o) (joined_unless task.parent (is_unjoined t (take t all)))) (take_there words n (first + 9 * t + 1) (omega (arith, within))) in
    let rest = rows_within words n first all (t + 1) tasks (omega (arith, within)) in
    λ i. here i ∷ rest i

held_few : (slots : List (Option TaskSlot)) → length (held_in slots) ≤ length slots
held_few [] = omega arith
held_few (None ∷ slots) = let few = held_few slots in omega (arith, few)
held_few (Some task ∷ slots) = let few = held_few slots in omega (arith, few)

all_there : (l : List ℕ) (n : ℕ) → length (take n l) ≡ n → n ≤ length l
all_there l zero is = omega arith
all_there [] (suc n) is = absurd (omega (arith, is))
all_there (x ∷ l) (suc n) is = let rest = all_there l n (omega (arith, is)) in omega (arith, rest)

-- The state.
module _ (p : Program) (lim : Bounds) (well : IsWellFormed p) (st : State) (reached : IsReached p lim st) (all_words : List ℕ) (tasks : List TaskSlot) (shows : ShowsState p lim st all_words tasks) where
  abbrev words : List ℕ
  words = take (word_count p lim) all_words

  pub within : word_count p lim ≤ length all_words
  within = all_there all_words (word_count p lim) shows.rest.word_count

  pub few : length tasks ≤ lim.tasks
  few =
      let least = held_few shows.slots in
      let held = ap length shows.held in
      let count = shows.rest.slot_count in
      omega (arith, least, held, count)

  pub cells_small : (c : ℕ) → c < cell_count p → number_at (get_elem? all_words (cell_place c)) < 2 ^ 32
  cells_small c below =
      let word = shows.end.cells c below in
      subst (λ (o : core.Option ℕ). number_at o < 2 ^ 32) (sym (sym (take_there all_words (word_count p lim) (8 + 8 * c) (omega (arith, below))) ∙ word.there)) word.small

  pub asked_read : asked_of_clock (number_at (get_elem? all_words 0)) ≡ st.asked
  asked_read = ap (λ (o : core.Option ℕ). asked_of_clock (number_at o)) (sym (take_there all_words (word_count p lim) 0 (omega arith))) ∙ shows.rest.asked

  pub cells_read : cell_words_from all_words 8 (cell_count p) ≡ st.cells
  cells_read = sym (cells_within all_words (word_count p lim) 8 (cell_count p) (omega arith)) ∙ shows.rest.cells

  are_slots : AreSlotsOf st.tasks shows.slots
  are_slots = record {
    made = shows.end.slots_are;
    unmade = λ t past below. let count = shows.rest.slot_count in shows.rest.unmade t past (omega (arith, count, below));
  }

  pub held_all : tasks ≡ map slot_of st.tasks
  held_all = shows.held ∙ held_is st.tasks shows.slots are_slots

  -- the children of a task were made after it
  late : (c k : ℕ) (row : TaskRow) → IsRow st k row → c ≤ k → has_child c (slot_of row) ≡ false
  late c k row there past = by (has_child c (slot_of row)) refl
    where
      by : (b : Bool) → has_child c (slot_of row) ≡ b → has_child c (slot_of row) ≡ false
      by false is = is
      by true is =
          let stands = reached_stands p lim st well reached in
          let listed : IsIn c row.out = subst (IsIn c) (sym (stands.rows k row there).out) (any_in row.frame.out.items c is) in
          let child : IsChild st.tasks k c = (stands.children k row there c).0 (in_contains row.out c listed) in
          let below = (stands.rows c child.row child.there).parent k child.parent in
          absurd (omega (arith, below, past))

  say_rows : SayRows words (8 + 8 * cell_count p) (map slot_of st.tasks) 0 st.tasks
  say_rows = record {
    are = λ t n row is there.
        let here : IsRow st n row = subst (λ (k : ℕ). IsRow st k row) (omega (arith, is)) there in
        row_shown p lim well st reached n row here
        ∙ ap (λ (phase : Phase). row_by (slot_of row) phase (is_joined n row.parent (map slot_of st.tasks))) (sym (shows.rest.phases n row here));
    early = λ n. early_tell n n st.tasks (λ k row past there. late n k row there past);
  }

  pub tasks_read : rows_from all_words (8 + 8 * cell_count p) tasks 0 tasks ≡ st.tasks
  tasks_read =
      sym (rows_within all_words (word_count p lim) (8 + 8 * cell_count p) tasks 0 tasks (omega (arith, few)))
      ∙ (ap (λ (all : List TaskSlot). rows_from words (8 + 8 * cell_count p) all 0 all) held_all
      ∙ rows_are words (8 + 8 * cell_count p) (map slot_of st.tasks) 0 st.tasks say_rows)

  pub tasks_are : (first : ℕ) (rows : List TaskRow) → first ≡ 8 + 8 * cell_count p → rows ≡ rows_from all_words first tasks 0 tasks → rows ≡ st.tasks
  tasks_are first rows first_is is = is ∙ (ap (λ (n : ℕ). rows_from all_words n tasks 0 tasks) first_is ∙ tasks_read)

  pub rows_ordered : IsWithin lim.fuel lim.tasks → (rows : List TaskRow) → rows ≡ st.tasks → IsOrdered (map link_of_row rows)
  rows_ordered within rows same =
      subst IsOrdered ((reached_stands p lim st well reached).links ∙ ap (map link_of_row) (sym same)) (reached_ordered p lim st well within reached)

  pub state_is : (cells : List ℤ) (rows : List TaskRow) (links : List Link) (prints : List ℤ) (asked : ℕ) (fault : Option FirstFault) → cells ≡ st.cells → rows ≡ st.tasks
      → links ≡ map link_of_row rows → prints ≡ st.prints → asked ≡ st.asked → fault ≡ st.first_fault
      → record { cells = cells; tasks = rows; links = links; prints = prints; asked = asked; first_fault = fault } ≡ st
  state_is cells rows links prints asked fault cells_are rows_same links_are prints_are asked_is fault_is =
      let links_same : links ≡ st.links = links_are ∙ (ap (map link_of_row) rows_same ∙ sym (reached_stands p lim st well reached).links) in
      λ i. record { cells = cells_are i; tasks = rows_same i; links = links_same i; prints = prints_are i; asked = asked_is i; first_fault = fault_is i }
