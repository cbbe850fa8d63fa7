-- A table that is laid out by a state keeps the rule; and one that is closed at a quiet point shows the state.
use Rattle.std.proofs.Common.{◌≡◌, ◌⊎◌, ◌+◌, ◌*◌, ◌<◌, ◌≤◌, ℕ, zero, suc, ℤ, List, [], ◌∷◌, length, map, Option, None, Some, refl, sym, ap, subst, ◌∙◌, inl, inr, ⊎_elim, arith}
use Rattle.std.specs.Prelude.{◌^◌, slice_get}
use Rattle.std.proofs.lemmas.Nat.{div-mul-add, mod-mul-add}
use mathlib.Core.Option as core
use mathlib.Core.Option.{some-injective, some-ne-none}
use lib.ListN.{get_elem?}
use native.Mathlib.Decide.{dec_le}
use Rattle.atomic_table.specs.Table.{opening}
use Rattle.seg_meaning.specs.Access.{value_in}
use Rattle.twe_base.specs.Limits.{Bounds, IsWithin}
use Rattle.twe_program.specs.Program.{Program, cell_count}
use Rattle.twe_program.specs.WellFormed.{IsWellFormed}
use Rattle.isolation_laws.specs.soundness.KeepsEffects.{KeepsEffects}
use Rattle.machine_state.specs.declared.state.State.{State}
use Rattle.machine_state.specs.declared.state.TaskRow.{TaskRow}
use Rattle.machine_state.specs.Runs.{IsReached, IsRun}
use Rattle.machine_state.proofs.standing.ReachedStands.{reached_stands}
use Rattle.seg_journal.specs.declared.numbered.NumberedEntry.{NumberedEntry}
use Rattle.seg_journal.specs.Merging.{journal_of, prints_of}
use Rattle.floor_laws.specs.declared.rule.view.TaskSlot.{TaskSlot}
use Rattle.floor_laws.specs.rule.Floors.{put}
use Rattle.floor_laws.specs.rule.Rule.{AreInOrder, KeepsRule}
use Rattle.floor_laws.specs.rule.Steps.{floor_at, home_at_start, phase_at_start, turn_at_start}
use Rattle.floor_laws.specs.rule.Touches.{cell_at}
use Rattle.floor_laws.proofs.rule.Puts.{put_else, put_here}
use Rattle.floor_laws.proofs.rule.QuietLemmas.{same_cells, starts}
use Rattle.floor_laws.specs.declared.table.view.View.{View}
use Rattle.floor_laws.specs.table.FloorOf.{Table, seat_facts_at, floor_of, home_at, part_at, segment_at, turns_at, worker_at}
use Rattle.floor_laws.specs.table.Holds.{IsLaidOut, TableKeeps, first_view, slot_of_row, turn_word_of}
use Rattle.floor_laws.specs.table.Layout.{asked_of_clock, cell_place, cell_words_from, clock_place, entries_of_clock, number_at, phase_place, phase_word_at, turn_place, turn_word_at, value_of_word}
use Rattle.floor_laws.proofs.table.Clock.{entries_few}
use Rattle.floor_laws.proofs.table.SeatKinds.{seats_first}
use Rattle.floor_laws.proofs.table.Steps.{floor_is, phase_again}
use Rattle.floor_laws.proofs.table.Words.{cells_at, cells_length}

beyond : {A : Type 0} (l : List A) (i : ℕ) → length l ≤ i → get_elem? l i ≡ core.none
beyond [] i past = refl
beyond (x ∷ l) zero past = absurd (omega (arith, past))
beyond (x ∷ l) (suc i) past = beyond l i (omega (arith, past))

no_row : (rows : List TaskRow) (t : ℕ) → length rows ≤ t → slice_get rows t ≡ None
no_row [] t past = refl
no_row (r ∷ rows) zero past = absurd (omega (arith, past))
no_row (r ∷ rows) (suc t) past = no_row rows t (omega (arith, past))

mapped : (slots : List (Option TaskSlot)) (t : ℕ) (slot : Option TaskSlot) → get_elem? slots t ≡ core.some slot → get_elem? (map core.some slots) t ≡ core.some (core.some slot)
mapped [] t slot is = absurd (some-ne-none slot (sym is))
mapped (x ∷ slots) zero slot is = ap core.some (ap core.some (some-injective x slot is))
mapped (x ∷ slots) (suc t) slot is = mapped slots t slot is

mapped_length : (slots : List (Option TaskSlot)) → length (map core.some slots) ≡ length slots
mapped_length [] = refl
mapped_length (x ∷ slots) = ap suc (mapped_length slots)

below_or : (n m : ℕ) → (n < m) ⊎ (m ≤ n)
below_or n m = by (dec_le m n)
  where
    by : Dec (m ≤ n) → (n < m) ⊎ (m ≤ n)
    by (yes past) = inr past
    by (no not) = inl (omega (arith, not))

-- what the words of a task show at the start
turn_starts : (o : Option TaskRow) → turn_word_at (core.some (turn_word_of o)) ≡ turn_at_start o
turn_starts None = refl
turn_starts (Some row) = refl

home_starts : (o : Option TaskRow) → home_at (core.some (core.some (slot_of_row o))) ≡ home_at_start o
home_starts None = refl
home_starts (Some row) = refl

module _ (p : Program) (lim : Bounds) (log : List NumberedEntry) (st : State) (well : IsWellFormed p) (keeps : KeepsEffects p) (within : IsWithin lim.fuel lim.tasks)
    (run : IsRun p lim (journal_of log) st) (order : AreInOrder log) (prints : st.prints ≡ prints_of log) (words : List ℕ) (slots : List (Option TaskSlot)) (laid : IsLaidOut p lim log st words slots) where
  reached : IsReached p lim st
  reached = record { journal = journal_of log; legal = run.legal; same = run.same }

  abbrev first : View
  first = first_view log

  abbrev table : Table
  table = opening words slots first

  clock_is : number_at (get_elem? words clock_place) ≡ st.asked * 2 ^ 45 + length log
  clock_is = ap number_at laid.clock

  few : length log < 2 ^ 45
  few = entries_few p lim log well within run.legal

  no_task : (t : ℕ) → lim.tasks ≤ t → slice_get st.tasks t ≡ None
  no_task t past =
      let made = (reached_stands p lim st well reached).limit within.tasks_least in
      no_row st.tasks t (omega (arith, past, made))

  turns_are : (t : ℕ) → turn_word_at (get_elem? words (turn_place p t)) ≡ turn_at_start (slice_get st.tasks t)
  turns_are t =
      ⊎_elim
      (λ (below : t < lim.tasks). ap turn_word_at (laid.turns t below) ∙ turn_starts (slice_get st.tasks t))
      (λ (past : lim.tasks ≤ t).
      let size = laid.word_count in
      ap turn_word_at (beyond words (turn_place p t) (omega (arith, size, past))) ∙ sym (ap turn_at_start (no_task t past)))
      (below_or t lim.tasks)

  phases_are : (t : ℕ) → phase_word_at (get_elem? words (phase_place p t)) ≡ phase_at_start (slice_get st.tasks t)
  phases_are t =
      ⊎_elim
      (λ (below : t < lim.tasks). ap phase_word_at (laid.phases t below) ∙ phase_again (phase_at_start (slice_get st.tasks t)))
      (λ (past : lim.tasks ≤ t).
      let size = laid.word_count in
      ap phase_word_at (beyond words (phase_place p t) (omega (arith, size, past))) ∙ sym (ap phase_at_start (no_task t past)))
      (below_or t lim.tasks)

  homes_are : (t : ℕ) → home_at (get_elem? (map core.some slots) t) ≡ home_at_start (slice_get st.tasks t)
  homes_are t =
      ⊎_elim
      (λ (below : t < lim.tasks). ap home_at (mapped slots t (slot_of_row (slice_get st.tasks t)) (laid.slots_are t below)) ∙ home_starts (slice_get st.tasks t))
      (λ (past : lim.tasks ≤ t).
      let size = laid.slot_count in
      let size_mapped = mapped_length slots in
      ap home_at (beyond (map core.some slots) t (omega (arith, size, size_mapped, past))) ∙ sym (ap home_at_start (no_task t past)))
      (below_or t lim.tasks)

  cells_are : cell_words_from words 8 (cell_count p) ≡ st.cells
  cells_are =
      let size : length (cell_words_from words 8 (cell_count p)) ≡ length st.cells = cells_length words 8 (cell_count p) ∙ sym (reached_stands p lim st well reached).cells in
      same_cells (cell_words_from words 8 (cell_count p)) st.cells size (λ c. cell_is c size)
    where
      past_cell : (cells : List ℤ) (c : ℕ) → length cells ≤ c → slice_get cells c ≡ None
      past_cell [] c past = refl
      past_cell (x ∷ cells) zero past = absurd (omega (arith, past))
      past_cell (x ∷ cells) (suc c) past = past_cell cells c (omega (arith, past))

      cell_is : (c : ℕ) → length (cell_words_from words 8 (cell_count p)) ≡ length st.cells → cell_at (cell_words_from words 8 (cell_count p)) c ≡ cell_at st.cells c
      cell_is c size =
          ⊎_elim
          (λ (below : c < cell_count p).
          let word = laid.cells c below in
          cells_at words 8 (cell_count p) c (cell_place c) refl below ∙ (ap (λ (o : core.Option ℕ). value_of_word (number_at o)) word.there ∙ word.means))
          (λ (past : cell_count p ≤ c).
          let mine = cells_length words 8 (cell_count p) in
          ap value_in (past_cell (cell_words_from words 8 (cell_count p)) c (omega (arith, mine, past))) ∙ sym (ap value_in (past_cell st.cells c (omega (arith, mine, size, past)))))
          (below_or c (cell_count p))

  -- the one seat
  alone : {X : Type 0} (part : core.Option View → X) (i : ℕ) → part (get_elem? (first ∷ []) i) ≡ put (λ (j : ℕ). part core.none) 0 (part (core.some first)) i
  alone {X} part zero = sym (put_here (λ (j : ℕ). part core.none) 0 (part (core.some first)))
  alone {X} part (suc i) = sym (put_else (λ (j : ℕ). part core.none) 0 (suc i) (part (core.some first)) (λ same. omega (arith, same)))

  unchanged : {X : Type 0} (x : X) (i : ℕ) → put (λ (j : ℕ). x) 0 x i ≡ x
  unchanged {X} x zero = put_here (λ (j : ℕ). x) 0 x
  unchanged {X} x (suc i) = put_else (λ (j : ℕ). x) 0 (suc i) x (λ same. omega (arith, same))

  start_tie : floor_of p table ≡ floor_at log st
  start_tie =
      floor_is (floor_of p table) (floor_at log st)
      (ap entries_of_clock clock_is ∙ mod-mul-add st.asked (2 ^ 45) (length log) few)
      (ap asked_of_clock clock_is ∙ div-mul-add st.asked (2 ^ 45) (length log) few)
      cells_are
      (λ k t. turns_are t k)
      (λ k t. phases_are t k)
      (λ k t. homes_are t k)
      (λ k i. (alone worker_at i ∙ unchanged 0 i) k)
      (λ k i. alone part_at i k)
      (λ k i. (alone turns_at i ∙ unchanged (λ (t : ℕ). None) i) k)
      (λ k i. (alone segment_at i ∙ unchanged None i) k)
      (λ k i. (alone seat_facts_at i ∙ unchanged [] i) k)

  pub starts_keep : TableKeeps p lim (opening words slots (first_view log))
  starts_keep = record {
    well = well;
    keeps = keeps;
    within = within;
    words = laid.word_count;
    slots = mapped_length slots ∙ laid.slot_count;
    cells = λ c below. let word = laid.cells c below in subst (λ (o : core.Option ℕ). number_at o < 2 ^ 32) (sym word.there) word.small;
    seats = seats_first first refl refl;
    log = log;
    rule = subst (KeepsRule p lim log) (sym start_tie) (starts p lim log st run order prints);
  }
