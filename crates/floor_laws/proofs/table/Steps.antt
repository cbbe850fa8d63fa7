-- Each step on a word keeps the rule of the table: the floor that the table shows changes as the step of the floor says.
use Rattle.std.proofs.Common.{◌≡◌, ◌≢◌, ◌⊎◌, ◌+◌, ◌*◌, ◌<◌, ◌≤◌, ℕ, zero, suc, ℤ, List, [], ◌∷◌, length, Option, None, Some, refl, sym, ap, subst, ◌∙◌, inl, inr, ⊎_elim, arith, length-set}
use Rattle.std.specs.Prelude.{◌==◌, ◌^◌, slice_index, slice_set}
use Rattle.std.proofs.lemmas.Bool.{cases_eq}
use mathlib.Core.Option as core
use lib.ListN.{get_elem?}
use prog.Atomic.{either}
use Rattle.atomic_table.specs.Table.{Act, Allows, Valid, carried_after, gives, keeps, stepped, takes}
use Rattle.atomic_table.proofs.Lists.{exchanged}
use Rattle.twe_base.specs.Limits.{Bounds, IsWithin}
use Rattle.twe_program.specs.Program.{Program, cell_count}
use Rattle.twe_program.specs.WellFormed.{IsWellFormed}
use Rattle.seg_meaning.specs.Access.{Access, Reads, Writes}
use Rattle.machine_state.specs.declared.state.State.{State}
use Rattle.machine_state.specs.declared.state.TaskRow.{TaskRow}
use Rattle.machine_state.specs.declared.state.TaskStatus.TheVariants as status
use Rattle.machine_state.specs.Runs.{IsReached, Legal, state_after}
use Rattle.seg_journal.specs.declared.numbered.NumberedEntry.{NumberedEntry}
use Rattle.seg_journal.specs.Merging.{journal_of}
use Rattle.floor_laws.specs.declared.rule.view.DoneFact.{DoneFact}
use Rattle.floor_laws.specs.declared.rule.view.HeldTurn.{HeldTurn}
use Rattle.floor_laws.specs.declared.rule.view.OpenSegment.{OpenSegment}
use Rattle.floor_laws.specs.declared.rule.view.Phase.{Phase}
use Rattle.floor_laws.specs.declared.rule.view.Phase.TheVariants.{Absent, Made, Running, Waits, Done, Faulted}
use Rattle.floor_laws.specs.declared.rule.view.TaskSlot.{TaskSlot}
use Rattle.floor_laws.specs.declared.rule.view.Touch.{Touch}
use Rattle.floor_laws.specs.declared.rule.view.Touch.TheVariants.{Read, Write}
use Rattle.floor_laws.specs.rule.Floors.{Floor, Holds, Free, Taken, put}
use Rattle.floor_laws.specs.rule.Fitting.{MayRunFrom, PhaseFits, RowIs, TurnFits}
use Rattle.floor_laws.specs.rule.Rows.{phase_of, slot_of}
use Rattle.floor_laws.specs.rule.Rule.{KeepsRule}
use Rattle.floor_laws.specs.rule.Steps.{MayGive, MayStorePhase, MayTouch, after_finding_done, after_giving, after_load, after_phase, after_store, after_taking, IsPhaseFor, touched, with_row}
use Rattle.floor_laws.specs.rule.Touches.{cell_at, touches_of}
use Rattle.floor_laws.specs.rule.LastTouches.{last_touched}
use Rattle.machine_state.proofs.standing.ReachedStands.{reached_stands}
use Rattle.machine_state.proofs.standing.SettlesNext.{awaited_above}
use Rattle.floor_laws.proofs.rule.DoneValues.{reached_has}
use Rattle.floor_laws.proofs.rule.Puts.{put_else, put_here}
use Rattle.floor_laws.proofs.rule.TurnLemmas.{turn_here}
use Rattle.floor_laws.proofs.rule.RuleSteps.{find_done, give, load, store, store_phase, take}
use Rattle.floor_laws.proofs.rule.LastTouches.{load_last}
use Rattle.floor_laws.specs.declared.table.view.SeatKind.TheVariants.{Spent}
use Rattle.floor_laws.specs.declared.table.view.View.{View}
use Rattle.floor_laws.specs.table.FloorOf.{Table, seat_facts_at, floor_of, home_at, part_at, segment_at, turn_in, turns_at, worker_at}
use Rattle.floor_laws.specs.table.Holds.{TableKeeps}
use Rattle.floor_laws.specs.table.Layout.{asked_of_clock, cell_place, cell_words_from, clock_place, entries_of_clock, free_word, number_at, phase_of_word, phase_place, phase_word_at, taken_word, turn_word_at, turn_of_word, turn_place, value_of_word, word_of_phase}
use Rattle.floor_laws.specs.table.Tells.{FoundPhase, GaveTurn, IsLastTouch, IsOwnPhase, MayGiveTurn, MayStore, MayTouchCell, ReadCell, StoredPhase, TriedTurn, WaitsAbove, WroteCell, with_touch, with_turn}
use Rattle.floor_laws.proofs.table.Elements.{at_else, at_within, set_same, word_at}
use Rattle.floor_laws.proofs.table.Words.{cells_at, cells_else, cells_length, cells_put, phases_kept, phases_put, turns_kept, turns_put}
use Rattle.floor_laws.proofs.table.Views.{seats_kept, seats_put}
use Rattle.floor_laws.proofs.table.SeatKinds.{seats_after}

-- two floors with the same parts are one
pub floor_is : (g h : Floor) → g.entries ≡ h.entries → g.asked ≡ h.asked → g.cells ≡ h.cells → g.turns ≡ h.turns → g.phases ≡ h.phases → g.homes ≡ h.homes
    → g.workers ≡ h.workers → g.parts ≡ h.parts → g.held ≡ h.held → g.segments ≡ h.segments → g.facts ≡ h.facts → g ≡ h
floor_is g h entries asked cells turns phases homes workers parts held segments facts = λ k. record {
  entries = entries k;
  asked = asked k;
  cells = cells k;
  turns = turns k;
  phases = phases k;
  homes = homes k;
  workers = workers k;
  parts = parts k;
  held = held k;
  segments = segments k;
  facts = facts k;
}

-- slots of which one was set
pub homes_put : (homes : List (core.Option (Option TaskSlot))) (t : ℕ) (x : core.Option (Option TaskSlot)) → t < length homes
    → (λ (u : ℕ). home_at (get_elem? (slice_set homes t x) u)) ≡ put (λ (u : ℕ). home_at (get_elem? homes u)) t (home_at (core.some x))
homes_put homes t x within = λ k u. at u k
  where
    at : (u : ℕ) → home_at (get_elem? (slice_set homes t x) u) ≡ put (λ (n : ℕ). home_at (get_elem? homes n)) t (home_at (core.some x)) u
    at u =
        ⊎_elim
        (λ (same : u ≡ t).
        ap (λ (j : ℕ). home_at (get_elem? (slice_set homes t x) j)) same
        ∙ (ap home_at (at_within homes t x within)
        ∙ (sym (put_here (λ (n : ℕ). home_at (get_elem? homes n)) t (home_at (core.some x))) ∙ ap (put (λ (n : ℕ). home_at (get_elem? homes n)) t (home_at (core.some x))) (sym same))))
        (λ (other : u ≢ t). ap home_at (at_else homes t u x other) ∙ sym (put_else (λ (n : ℕ). home_at (get_elem? homes n)) t u (home_at (core.some x)) other))
        (cases_eq u t)

-- a slot that holds a task
pub home_holds : (o : core.Option (core.Option (Option TaskSlot))) (slot : TaskSlot) → home_at o ≡ Holds slot → o ≡ core.some (core.some (Some slot))
home_holds core.none slot is = absurd (cc (is))
home_holds (core.some core.none) slot is = absurd (cc (is))
home_holds (core.some (core.some None)) slot is = absurd (cc (is))
home_holds (core.some (core.some (Some other))) slot is = let same : other ≡ slot = cc in ap (λ (x : TaskSlot). core.some (core.some (Some x))) same

-- a phase is the one that its number stands for
pub phase_again : (phase : Phase) → phase_of_word (word_of_phase phase) ≡ phase
phase_again Absent = refl
phase_again Made = refl
phase_again Running = refl
phase_again (Waits on) = refl
phase_again Done = refl
phase_again Faulted = refl

-- the state of a log is reached
reached_by : (p : Program) (lim : Bounds) (log : List NumberedEntry) → Legal p lim (journal_of log) → IsReached p lim (state_after p lim (journal_of log))
reached_by p lim log legal = record { journal = journal_of log; legal = legal; same = refl }

-- a phase word that says the truth is small, since few tasks are made
phase_small : (p : Program) (lim : Bounds) (st : State) → IsWellFormed p → IsWithin lim.fuel lim.tasks → IsReached p lim st → (t n : ℕ) → PhaseFits st t (phase_of_word n) → n < 2 ^ 32
phase_small p lim st well within reached t zero fits = omega arith
phase_small p lim st well within reached t (suc zero) fits = omega arith
phase_small p lim st well within reached t (suc (suc zero)) fits = omega arith
phase_small p lim st well within reached t (suc (suc (suc zero))) fits = omega arith
phase_small p lim st well within reached t (suc (suc (suc (suc zero)))) fits = omega arith
phase_small p lim st well within reached t (suc (suc (suc (suc (suc on))))) fits =
    let stands = reached_stands p lim st well reached in
    let below = (awaited_above p lim st.tasks t fits.row.frame (stands.rows t fits.row fits.there).frame on fits.on).1 in
    let limit = stands.limit within.tasks_least in
    let most = within.tasks_most in
    omega (arith, below, limit, most)

is_done : (phase : Phase) → (phase ≡ Done) ⊎ (phase ≢ Done)
is_done Absent = inr (λ same. cc (same))
is_done Made = inr (λ same. cc (same))
is_done Running = inr (λ same. cc (same))
is_done (Waits on) = inr (λ same. cc (same))
is_done Done = inl refl
is_done Faulted = inr (λ same. cc (same))

module _ (p : Program) (lim : Bounds) (s : Table) (kept : TableKeeps p lim s) (id : ℕ) (v : View) (at : get_elem? s.views id ≡ core.some v) (live : v.kind ≢ Spent) where
  abbrev f : Floor
  f = floor_of p s

  pub turns_id : turns_at (get_elem? s.views id) ≡ turn_in v.turns
  turns_id = ap turns_at at

  -- places within the table
  turn_within : (t : ℕ) → t < lim.tasks → turn_place p t < length s.words
  turn_within t below = let size = kept.words in omega (arith, size, below)

  phase_within : (t : ℕ) → t < lim.tasks → phase_place p t < length s.words
  phase_within t below = let size = kept.words in omega (arith, size, below)

  cell_within : (c : ℕ) → c < cell_count p → cell_place c < length s.words
  cell_within c below = let size = kept.words in omega (arith, size, below)

  -- words behind the cells
  clock_else : (i x : ℕ) → 8 + 8 * cell_count p ≤ i → number_at (get_elem? (slice_set s.words i x) clock_place) ≡ number_at (get_elem? s.words clock_place)
  clock_else i x past = ap number_at (at_else s.words i 0 x (λ same. omega (arith, same, past)))

  cells_stay : (i x : ℕ) → 8 + 8 * cell_count p ≤ i → cell_words_from (slice_set s.words i x) 8 (cell_count p) ≡ cell_words_from s.words 8 (cell_count p)
  cells_stay i x past = cells_else s.words 8 (cell_count p) i x (λ c below same. omega (arith, below, same, past))

  small_stay : (i x : ℕ) → 8 + 8 * cell_count p ≤ i → (c : ℕ) → c < cell_count p → number_at (get_elem? (slice_set s.words i x) (cell_place c)) < 2 ^ 32
  small_stay i x past c below =
      subst (λ (n : ℕ). n < 2 ^ 32) (sym (ap number_at (at_else s.words i (cell_place c) x (λ same. omega (arith, below, same, past))))) (kept.cells c below)

  -- a table with a set word, a set slot or none, and another view of this seat
  pub keeps_after : (words : List ℕ) (homes : List (core.Option (Option TaskSlot))) (w : View) → w.kind ≡ v.kind → w.out ≡ v.out → length words ≡ length s.words → length homes ≡ length s.homes
      → ((c : ℕ) → c < cell_count p → number_at (get_elem? words (cell_place c)) < 2 ^ 32) → (log : List NumberedEntry)
      → KeepsRule p lim log (floor_of p (record { words = words; homes = homes; views = slice_set s.views id w }))
      → TableKeeps p lim (record { words = words; homes = homes; views = slice_set s.views id w })
  keeps_after words homes w kind out as_many as_many_slots small log rule = record {
    well = kept.well;
    keeps = kept.keeps;
    within = kept.within;
    words = as_many ∙ kept.words;
    slots = as_many_slots ∙ kept.slots;
    cells = small;
    seats = seats_after s.views kept.seats id v w at live kind out;
    log = log;
    rule = rule;
  }

  -- a step that changes nothing
  nothing_changes : (i : ℕ) → i < length s.words → stepped s i (slice_index s.words i) id [] v keeps ≡ s
  nothing_changes i within =
      let words = set_same s.words i (slice_index s.words i) (word_at s.words i within) in
      let views = set_same s.views id v at in
      λ k. record { words = words k; homes = s.homes; views = views k }

  -- Taking a turn.
  module _ (t : ℕ) (below : t < lim.tasks) where
    take_tie : (turn : HeldTurn) → floor_of p (record { words = slice_set s.words (turn_place p t) (taken_word v.worker); homes = slice_set s.homes t core.none; views = slice_set s.views id (with_turn v t (Some turn)) })
        ≡ after_taking f id t turn
    take_tie turn =
        let i = turn_place p t in
        let x = taken_word v.worker in
        let w = with_turn v t (Some turn) in
        let past : 8 + 8 * cell_count p ≤ i = omega arith in
        let slots = kept.slots in
        floor_is _ (after_taking f id t turn)
        (ap entries_of_clock (clock_else i x past))
        (ap asked_of_clock (clock_else i x past))
        (cells_stay i x past)
        (turns_put p s.words i x t refl (turn_within t below) ∙ ap (λ (o : core.Option View). put f.turns t (Taken (worker_at o))) (sym at))
        (phases_kept p s.words i x (λ u same. omega (arith, same)))
        (homes_put s.homes t core.none (omega (arith, slots, below)))
        (seats_kept worker_at s.views id v w at refl)
        (seats_kept part_at s.views id v w at refl)
        (seats_put turns_at s.views id v w at (put (f.held id) t (Some turn)) (ap (λ (g : ℕ → Option HeldTurn). put g t (Some turn)) (sym turns_id)))
        (seats_kept segment_at s.views id v w at refl)
        (seats_kept seat_facts_at s.views id v w at refl)

    -- what the rule tells of a turn that was just taken
    taken_row : (turn : HeldTurn) → KeepsRule p lim kept.log (after_taking f id t turn) → RowIs (state_after p lim (journal_of kept.log)) t turn.row
    taken_row turn rule = rule.fits.rows id t turn (turn_here f.held id t (Some turn))

    taken_phase : (turn : HeldTurn) → f.turns t ≡ Free → KeepsRule p lim kept.log (after_taking f id t turn) → turn.phase ≡ phase_of turn.row
    taken_phase turn free rule =
        let is = taken_row turn rule in
        sym (rule.fits.known_phases id t turn (turn_here f.held id t (Some turn))) ∙ (kept.rule.fits.free_phases t is.row free is.there ∙ ap phase_of is.same)

    taken_value : (turn : HeldTurn) → KeepsRule p lim kept.log (after_taking f id t turn) → turn.row.status ≡ status.Done → turn.row.frame.value ≡ turn.row.value
    taken_value turn rule done =
        let is = taken_row turn rule in
        let has = reached_has p lim kept.well (state_after p lim (journal_of kept.log)) (reached_by p lim kept.log kept.rule.legal) t is.row is.there in
        ap (λ (r : TaskRow). r.frame.value) (sym is.same) ∙ (has (ap (λ (r : TaskRow). r.status) is.same ∙ done) ∙ ap (λ (r : TaskRow). r.value) is.same)

    -- nobody has a turn that is free
    had_none : f.turns t ≡ Free → turn_in v.turns t ≡ None
    had_none free =
        let fits = subst (TurnFits (state_after p lim (journal_of kept.log)) f.held f.workers t) free (kept.rule.fits.turns t) in
        sym (ap (λ (g : ℕ → Option HeldTurn). g t) turns_id) ∙ fits.1 id

    pub take_step : (mine : List (ℕ × Option TaskSlot)) → slice_index s.words (turn_place p t) ≡ free_word
        → (w : View) × (a : Act (Option TaskSlot)) × Valid s.homes mine a × TableKeeps p lim (stepped s (turn_place p t) (taken_word v.worker) id mine w a)
        × TriedTurn (v, mine) t (slice_index s.words (turn_place p t)) (w, carried_after mine a)
    take_step mine found =
        let i = turn_place p t in
        let free : f.turns t ≡ Free = ap turn_word_at (word_at s.words i (turn_within t below)) ∙ ap turn_of_word found in
        let taken = take p kept.well kept.keeps lim kept.log f kept.rule id t free in
        let turn : HeldTurn = taken.0 in
        let slot : TaskSlot = slot_of turn.row in
        let valid = home_holds (get_elem? s.homes t) slot taken.2 in (
          with_turn v t (Some turn),
          takes t (Some slot),
          valid,
          keeps_after (slice_set s.words i (taken_word v.worker)) (slice_set s.homes t core.none) (with_turn v t (Some turn)) refl refl (length-set s.words i (taken_word v.worker))
              (length-set s.homes t core.none) (small_stay i (taken_word v.worker) (omega arith)) kept.log (subst (KeepsRule p lim kept.log) (sym (take_tie turn)) taken.3),
          inl (
            found,
            record {
              had_none = had_none free;
              turn = turn;
              taken = taken.1;
              phase = taken_phase turn free taken.3;
              value = taken_value turn taken.3;
              seat = refl;
            },
          ),
        )

    pub miss_step : (mine : List (ℕ × Option TaskSlot)) → slice_index s.words (turn_place p t) ≢ free_word
        → (w : View) × (a : Act (Option TaskSlot)) × Valid s.homes mine a × TableKeeps p lim (stepped s (turn_place p t) (slice_index s.words (turn_place p t)) id mine w a)
        × TriedTurn (v, mine) t (slice_index s.words (turn_place p t)) (w, carried_after mine a)
    miss_step mine other = (
      v,
      keeps,
      tt,
      subst (TableKeeps p lim) (sym (nothing_changes (turn_place p t) (turn_within t below))) kept,
      inr (other, refl),
    )

  pub facts_id : seat_facts_at (get_elem? s.views id) ≡ v.done
  facts_id = ap seat_facts_at at

  pub segment_id : segment_at (get_elem? s.views id) ≡ v.segment
  segment_id = ap segment_at at

  -- Giving a turn.
  module _ (t : ℕ) (below : t < lim.tasks) (turn : HeldTurn) where
    abbrev given_view : View
    given_view = record (with_turn v t None) { done = with_row turn.row.status t turn.row v.done }

    give_tie : floor_of p (record { words = slice_set s.words (turn_place p t) free_word; homes = slice_set s.homes t (core.some (Some (slot_of turn.row))); views = slice_set s.views id given_view })
        ≡ after_giving f id t turn
    give_tie =
        let i = turn_place p t in
        let w = given_view in
        let past : 8 + 8 * cell_count p ≤ i = omega arith in
        let slots = kept.slots in
        floor_is _ (after_giving f id t turn)
        (ap entries_of_clock (clock_else i free_word past))
        (ap asked_of_clock (clock_else i free_word past))
        (cells_stay i free_word past)
        (turns_put p s.words i free_word t refl (turn_within t below))
        (phases_kept p s.words i free_word (λ u same. omega (arith, same)))
        (homes_put s.homes t (core.some (Some (slot_of turn.row))) (omega (arith, slots, below)))
        (seats_kept worker_at s.views id v w at refl)
        (seats_kept part_at s.views id v w at refl)
        (seats_put turns_at s.views id v w at (put (f.held id) t None) (ap (λ (g : ℕ → Option HeldTurn). put g t None) (sym turns_id)))
        (seats_kept segment_at s.views id v w at refl)
        (seats_put seat_facts_at s.views id v w at (with_row turn.row.status t turn.row (f.facts id)) (ap (with_row turn.row.status t turn.row) (sym facts_id)))

    pub give_step : (rest : List (ℕ × Option TaskSlot)) → MayGiveTurn (v, (t, Some (slot_of turn.row)) ∷ rest) t turn rest
        → (w : View) × (a : Act (Option TaskSlot)) × Valid s.homes ((t, Some (slot_of turn.row)) ∷ rest) a
        × TableKeeps p lim (stepped s (turn_place p t) free_word id ((t, Some (slot_of turn.row)) ∷ rest) w a)
        × GaveTurn (v, (t, Some (slot_of turn.row)) ∷ rest) t turn rest (w, carried_after ((t, Some (slot_of turn.row)) ∷ rest) a)
    give_step rest may =
        let i = turn_place p t in
        let may_floor : MayGive f id t turn = record {
          has = ap (λ (g : ℕ → Option HeldTurn). g t) turns_id ∙ may.has;
          phase = may.phase;
          closed = λ o is. may.closed o (sym segment_id ∙ is);
        } in
        let rule = give p kept.well kept.keeps lim kept.log f kept.rule id t turn may_floor in (
          given_view,
          gives,
          tt,
          keeps_after (slice_set s.words i free_word) (slice_set s.homes t (core.some (Some (slot_of turn.row)))) given_view refl refl (length-set s.words i free_word)
              (length-set s.homes t (core.some (Some (slot_of turn.row)))) (small_stay i free_word (omega arith)) kept.log (subst (KeepsRule p lim kept.log) (sym give_tie) rule),
          refl,
        )

  -- Storing a phase.
  module _ (t : ℕ) (below : t < lim.tasks) (turn : HeldTurn) (phase : Phase) where
    abbrev stored_view : View
    stored_view = with_turn v t (Some (record turn { phase = phase }))

    store_phase_tie : floor_of p (record { words = slice_set s.words (phase_place p t) (word_of_phase phase); homes = s.homes; views = slice_set s.views id stored_view }) ≡ after_phase f id t turn phase
    store_phase_tie =
        let i = phase_place p t in
        let x = word_of_phase phase in
        let w = stored_view in
        let past : 8 + 8 * cell_count p ≤ i = omega arith in
        floor_is _ (after_phase f id t turn phase)
        (ap entries_of_clock (clock_else i x past))
        (ap asked_of_clock (clock_else i x past))
        (cells_stay i x past)
        (turns_kept p s.words i x (λ u same. omega (arith, same)))
        (phases_put p s.words i x t refl (phase_within t below) ∙ ap (put f.phases t) (phase_again phase))
        refl
        (seats_kept worker_at s.views id v w at refl)
        (seats_kept part_at s.views id v w at refl)
        (seats_put turns_at s.views id v w at (put (f.held id) t (Some (record turn { phase = phase }))) (ap (λ (g : ℕ → Option HeldTurn). put g t (Some (record turn { phase = phase }))) (sym turns_id)))
        (seats_kept segment_at s.views id v w at refl)
        (seats_kept seat_facts_at s.views id v w at refl)

    pub store_phase_step : (mine : List (ℕ × Option TaskSlot)) → MayStore (v, mine) t turn phase
        → (w : View) × (a : Act (Option TaskSlot)) × Valid s.homes mine a × TableKeeps p lim (stepped s (phase_place p t) (word_of_phase phase) id mine w a) × StoredPhase (v, mine) t turn phase (w, carried_after mine a)
    store_phase_step mine may =
        let i = phase_place p t in
        let may_floor : MayStorePhase f id t turn phase = record {
          has = ap (λ (g : ℕ → Option HeldTurn). g t) turns_id ∙ may.has;
          fits = subst (λ (facts : List DoneFact). IsPhaseFor facts turn phase) (sym facts_id) may.fits;
        } in
        let rule = store_phase p kept.well kept.keeps lim kept.log f kept.rule id t turn phase may_floor in (
          stored_view,
          keeps,
          tt,
          keeps_after (slice_set s.words i (word_of_phase phase)) s.homes stored_view refl refl (length-set s.words i (word_of_phase phase)) refl
              (small_stay i (word_of_phase phase) (omega arith)) kept.log (subst (KeepsRule p lim kept.log) (sym store_phase_tie) rule),
          refl,
        )

  -- A load changes no word.
  abbrev with_view : View → Table
  with_view w = record { words = s.words; homes = s.homes; views = slice_set s.views id w }

  loaded : (i : ℕ) (w : View) → i < length s.words → stepped s i (slice_index s.words i) id [] w keeps ≡ with_view w
  loaded i w within =
      let words = set_same s.words i (slice_index s.words i) (word_at s.words i within) in
      λ k. record { words = words k; homes = s.homes; views = slice_set s.views id w }

  -- Loading a phase.
  module _ (t : ℕ) (below : t < lim.tasks) where
    abbrev found_phase : ℕ
    found_phase = slice_index s.words (phase_place p t)

    abbrev done_view : ℤ → View
    done_view value = record v { done = record { task = t; value = value } ∷ v.done }

    find_tie : (value : ℤ) → floor_of p (with_view (done_view value)) ≡ after_finding_done f id t value
    find_tie value =
        let w = done_view value in
        floor_is _ (after_finding_done f id t value) refl refl refl refl refl refl (seats_kept worker_at s.views id v w at refl) (seats_kept part_at s.views id v w at refl) (seats_kept turns_at s.views id v w at refl)
        (seats_kept segment_at s.views id v w at refl)
        (seats_put seat_facts_at s.views id v w at (record { task = t; value = value } ∷ f.facts id) (ap (λ (l : List DoneFact). record { task = t; value = value } ∷ l) (sym facts_id)))

    own_phase : (mine : List (ℕ × Option TaskSlot)) → IsOwnPhase (v, mine) t found_phase
    own_phase mine turn has =
        sym (ap phase_word_at (word_at s.words (phase_place p t) (phase_within t below)))
        ∙ kept.rule.fits.known_phases id t turn (ap (λ (g : ℕ → Option HeldTurn). g t) turns_id ∙ has)

    found_small : found_phase < 2 ^ 32
    found_small =
        let st = state_after p lim (journal_of kept.log) in
        let fits = subst (PhaseFits st t) (ap phase_word_at (word_at s.words (phase_place p t) (phase_within t below))) (kept.rule.fits.phases t) in
        phase_small p lim st kept.well kept.within (reached_by p lim kept.log kept.rule.legal) t found_phase fits

    found_above : WaitsAbove lim t found_phase
    found_above u waits =
        let st = state_after p lim (journal_of kept.log) in
        let found : f.phases t ≡ Waits u = ap phase_word_at (word_at s.words (phase_place p t) (phase_within t below)) ∙ waits in
        let fits = subst (PhaseFits st t) found (kept.rule.fits.phases t) in
        let stands = reached_stands p lim st kept.well (reached_by p lim kept.log kept.rule.legal) in
        let above = awaited_above p lim st.tasks t fits.row.frame (stands.rows t fits.row fits.there).frame u fits.on in
        let limit = stands.limit kept.within.tasks_least in
        (above.0, omega (arith, above, limit))

    pub load_phase_step : (mine : List (ℕ × Option TaskSlot)) → (phase_of_word found_phase ≡ Done) ⊎ (phase_of_word found_phase ≢ Done)
        → (w : View) × (a : Act (Option TaskSlot)) × Valid s.homes mine a × TableKeeps p lim (stepped s (phase_place p t) found_phase id mine w a) × FoundPhase lim (v, mine) t found_phase (w, carried_after mine a)
    load_phase_step mine (inl done) =
        let i = phase_place p t in
        let is : f.phases t ≡ Done = ap phase_word_at (word_at s.words i (phase_within t below)) ∙ done in
        let found = find_done p kept.well kept.keeps lim kept.log f kept.rule id t is in
        let value : ℤ = found.0 in
        let w = done_view value in
        let then = keeps_after s.words s.homes w refl refl refl refl kept.cells kept.log (subst (KeepsRule p lim kept.log) (sym (find_tie value)) found.2) in (
          w,
          keeps,
          tt,
          subst (TableKeeps p lim) (sym (loaded i w (phase_within t below))) then,
          (own_phase mine, found_small, found_above, inl (done, record { value = value; seat = refl })),
        )
    load_phase_step mine (inr other) = (
      v,
      keeps,
      tt,
      subst (TableKeeps p lim) (sym (nothing_changes (phase_place p t) (phase_within t below))) kept,
      (own_phase mine, found_small, found_above, inr (other, refl)),
    )

  -- Cells.
  module _ (t c : ℕ) (below : c < cell_count p) where
    abbrev found_cell : ℕ
    found_cell = slice_index s.words (cell_place c)

    found_is : get_elem? s.words (cell_place c) ≡ core.some found_cell
    found_is = word_at s.words (cell_place c) (cell_within c below)

    may_touch : (mine : List (ℕ × Option TaskSlot)) (access : Access) → MayTouchCell p (v, mine) t access → MayTouch p f id t access
    may_touch mine access may = record {
      turn = may.turn;
      has = ap (λ (g : ℕ → Option HeldTurn). g t) turns_id ∙ may.has;
      ready = may.ready;
      may = subst (λ (facts : List DoneFact). MayRunFrom may.turn facts may.ready) (sym facts_id) may.may;
      made = may.made;
      own = λ o is. may.own o (sym segment_id ∙ is);
    }

    touch_put : (touch : Touch) → ◌≡◌ {A = ℕ → Option OpenSegment} (λ j. segment_at (get_elem? (slice_set s.views id (with_touch v t touch)) j)) (touched f id t touch)
    touch_put touch =
        seats_put segment_at s.views id v (with_touch v t touch) at (Some (record { task = t; touches = touch ∷ touches_of (f.segments id) }))
        (ap (λ (o : Option OpenSegment). Some (record { task = t; touches = touch ∷ touches_of o })) (sym segment_id))

    load_tie : (value : ℤ) → floor_of p (with_view (with_touch v t (Read c value))) ≡ after_load f id t c value
    load_tie value =
        let w = with_touch v t (Read c value) in
        floor_is _ (after_load f id t c value) refl refl refl refl refl refl (seats_kept worker_at s.views id v w at refl) (seats_kept part_at s.views id v w at refl) (seats_kept turns_at s.views id v w at refl)
        (touch_put (Read c value))
        (seats_kept seat_facts_at s.views id v w at refl)

    pub load_step : (mine : List (ℕ × Option TaskSlot)) (any : ℤ) → MayTouchCell p (v, mine) t (Reads c any)
        → (w : View) × (a : Act (Option TaskSlot)) × Valid s.homes mine a × TableKeeps p lim (stepped s (cell_place c) found_cell id mine w a) × ReadCell (v, mine) t c found_cell (w, carried_after mine a)
    load_step mine any may =
        let value : ℤ = value_of_word found_cell in
        let value_is : value ≡ cell_at f.cells c = sym (cells_at s.words 8 (cell_count p) c (cell_place c) refl below ∙ ap (λ (o : core.Option ℕ). value_of_word (number_at o)) found_is) in
        let made = may.made in
        let may_read : MayTouchCell p (v, mine) t (Reads c value) = record { turn = may.turn; has = may.has; ready = may.ready; may = may.may; made = record { cells = made.cells; made = made.made; makes = made.makes; same = made.same }; own = may.own } in
        let rule = load p kept.well kept.keeps lim kept.log f kept.rule id t c value value_is (may_touch mine (Reads c value) may_read) in
        let w = with_touch v t (Read c value) in
        let then = keeps_after s.words s.homes w refl refl refl refl kept.cells kept.log (subst (KeepsRule p lim kept.log) (sym (load_tie value)) rule) in
        let small : found_cell < 2 ^ 32 = subst (λ (o : core.Option ℕ). number_at o < 2 ^ 32) found_is (kept.cells c below) in
        let room : c < length f.cells = subst (λ (n : ℕ). c < n) (sym (cells_length s.words 8 (cell_count p))) below in
        let last : IsLastTouch (v, mine) c value = λ known is.
        load_last p kept.well kept.keeps lim kept.log f kept.rule id t c value known room value_is (may_touch mine (Reads c value) may_read) (ap (λ (o : Option OpenSegment). last_touched (touches_of o) c) segment_id ∙ is) in (
          w,
          keeps,
          tt,
          subst (TableKeeps p lim) (sym (loaded (cell_place c) w (cell_within c below))) then,
          (small, last, refl),
        )

    store_tie : (x : ℕ) (value : ℤ) → value_of_word x ≡ value
        → floor_of p (record { words = slice_set s.words (cell_place c) x; homes = s.homes; views = slice_set s.views id (with_touch v t (Write c value)) }) ≡ after_store f id t c value
    store_tie x value is =
        let i = cell_place c in
        let w = with_touch v t (Write c value) in
        floor_is _ (after_store f id t c value)
        (ap (λ (o : core.Option ℕ). entries_of_clock (number_at o)) (at_else s.words i 0 x (λ same. omega (arith, same))))
        (ap (λ (o : core.Option ℕ). asked_of_clock (number_at o)) (at_else s.words i 0 x (λ same. omega (arith, same))))
        (cells_put s.words 8 (cell_count p) c i x refl below (cell_within c below) ∙ ap (slice_set f.cells c) is)
        (turns_kept p s.words i x (λ u same. omega (arith, below, same)))
        (phases_kept p s.words i x (λ u same. omega (arith, below, same)))
        refl
        (seats_kept worker_at s.views id v w at refl)
        (seats_kept part_at s.views id v w at refl)
        (seats_kept turns_at s.views id v w at refl)
        (touch_put (Write c value))
        (seats_kept seat_facts_at s.views id v w at refl)

    small_put : (x : ℕ) → x < 2 ^ 32 → (d : ℕ) → d < cell_count p → number_at (get_elem? (slice_set s.words (cell_place c) x) (cell_place d)) < 2 ^ 32
    small_put x small d here =
        ⊎_elim
        (λ (same : d ≡ c).
        subst (λ (n : ℕ). number_at (get_elem? (slice_set s.words (cell_place c) x) (cell_place n)) < 2 ^ 32) (sym same)
        (subst (λ (o : core.Option ℕ). number_at o < 2 ^ 32) (sym (at_within s.words (cell_place c) x (cell_within c below))) small))
        (λ (other : d ≢ c).
        subst (λ (o : core.Option ℕ). number_at o < 2 ^ 32) (sym (at_else s.words (cell_place c) (cell_place d) x (λ same. other (omega (arith, same))))) (kept.cells d here))
        (cases_eq d c)

    pub store_step : (mine : List (ℕ × Option TaskSlot)) (x : ℕ) (value : ℤ) → x < 2 ^ 32 → value_of_word x ≡ value → MayTouchCell p (v, mine) t (Writes c value)
        → (w : View) × (a : Act (Option TaskSlot)) × Valid s.homes mine a × TableKeeps p lim (stepped s (cell_place c) x id mine w a) × WroteCell (v, mine) t c value (w, carried_after mine a)
    store_step mine x value small is may =
        let i = cell_place c in
        let rule = store p kept.well kept.keeps lim kept.log f kept.rule id t c value (may_touch mine (Writes c value) may) in
        let w = with_touch v t (Write c value) in (
          w,
          keeps,
          tt,
          keeps_after (slice_set s.words i x) s.homes w refl refl (length-set s.words i x) refl (small_put x small) kept.log (subst (KeepsRule p lim kept.log) (sym (store_tie x value is)) rule),
          refl,
        )

-- Taking a turn.
pub take_allowed : (p : Program) (lim : Bounds) (id t : ℕ) (v : View) (mine : List (ℕ × Option TaskSlot)) → v.kind ≢ Spent → t < lim.tasks
    → Allows (TableKeeps p lim) lim.tasks id (v, mine) (turn_place p t) (λ n. either (n == free_word) (taken_word v.worker) n) (TriedTurn (v, mine) t)
take_allowed p lim id t v mine live below s kept slots at small =
    let found = slice_index s.words (turn_place p t) in
    let F : ℕ → Type 0 = λ n. (w : View) × (a : Act (Option TaskSlot)) × Valid s.homes mine a × TableKeeps p lim (stepped s (turn_place p t) n id mine w a) × TriedTurn (v, mine) t found (w, carried_after mine a) in
    exchanged found free_word (taken_word v.worker) F (take_step p lim s kept id v at live t below mine) (miss_step p lim s kept id v at live t below mine)

-- Giving a turn.
pub give_allowed : (p : Program) (lim : Bounds) (id t : ℕ) (v : View) (mine rest : List (ℕ × Option TaskSlot)) (turn : HeldTurn) → v.kind ≢ Spent → t < lim.tasks → MayGiveTurn (v, mine) t turn rest
    → Allows (TableKeeps p lim) lim.tasks id (v, mine) (turn_place p t) (λ n. free_word) (λ n. GaveTurn (v, mine) t turn rest)
give_allowed p lim id t v mine rest turn live below may =
    subst (λ (l : List (ℕ × Option TaskSlot)). Allows (TableKeeps p lim) lim.tasks id (v, l) (turn_place p t) (λ n. free_word) (λ n. GaveTurn (v, l) t turn rest)) (sym may.slot)
    (λ s kept slots at small.
    give_step p lim s kept id v at live t below turn rest (record { has = may.has; phase = may.phase; closed = may.closed; slot = refl }))

-- Storing a phase, and loading one.
pub store_phase_allowed : (p : Program) (lim : Bounds) (id t : ℕ) (v : View) (mine : List (ℕ × Option TaskSlot)) (turn : HeldTurn) (phase : Phase) → v.kind ≢ Spent → t < lim.tasks → MayStore (v, mine) t turn phase
    → Allows (TableKeeps p lim) lim.tasks id (v, mine) (phase_place p t) (λ n. word_of_phase phase) (λ n. StoredPhase (v, mine) t turn phase)
store_phase_allowed p lim id t v mine turn phase live below may s kept slots at small = store_phase_step p lim s kept id v at live t below turn phase mine may

pub load_phase_allowed : (p : Program) (lim : Bounds) (id t : ℕ) (v : View) (mine : List (ℕ × Option TaskSlot)) → v.kind ≢ Spent → t < lim.tasks
    → Allows (TableKeeps p lim) lim.tasks id (v, mine) (phase_place p t) (λ n. n) (FoundPhase lim (v, mine) t)
load_phase_allowed p lim id t v mine live below s kept slots at small = load_phase_step p lim s kept id v at live t below mine (is_done (phase_of_word (slice_index s.words (phase_place p t))))

-- Loading a cell, and storing to one.
pub load_allowed : (p : Program) (lim : Bounds) (id t c : ℕ) (v : View) (mine : List (ℕ × Option TaskSlot)) (any : ℤ) → v.kind ≢ Spent → c < cell_count p → MayTouchCell p (v, mine) t (Reads c any)
    → Allows (TableKeeps p lim) lim.tasks id (v, mine) (cell_place c) (λ n. n) (ReadCell (v, mine) t c)
load_allowed p lim id t c v mine any live below may s kept slots at small = load_step p lim s kept id v at live t c below mine any may

pub store_allowed : (p : Program) (lim : Bounds) (id t c : ℕ) (v : View) (mine : List (ℕ × Option TaskSlot)) (x : ℕ) (value : ℤ) → v.kind ≢ Spent → c < cell_count p → x < 2 ^ 32 → value_of_word x ≡ value
    → MayTouchCell p (v, mine) t (Writes c value)
    → Allows (TableKeeps p lim) lim.tasks id (v, mine) (cell_place c) (λ n. x) (λ n. WroteCell (v, mine) t c value)
store_allowed p lim id t c v mine x value live below few is may s kept slots at small = store_step p lim s kept id v at live t c below mine x value few is may
