-- The floor that starts from a state keeps the rule; and a floor at a quiet point shows the state.
use Rattle.std.proofs.Common.{◌≡◌, ◌≢◌, ◌+◌, ◌<◌, ◌≤◌, ◌&&◌, ℕ, zero, suc, ℤ, Bool, true, false, cond, List, [], ◌∷◌, length, Option, None, Some, refl, sym, ap, subst, ◌∙◌, inl, inr, ⊎_elim, nat_lt, arith, eq-eqb, ne_eqb}
use Rattle.std.specs.Prelude.{◌==◌, slice_get, count_by}
use Rattle.std.proofs.lemmas.Bool.{cases_eq, ltb-true, ltb-false}
use Rattle.std.proofs.lemmas.List.Sums.{sum_by-append}
use Rattle.std.proofs.lemmas.Option.{slice_get_within}
use Rattle.twe_base.specs.Limits.{Bounds}
use Rattle.twe_program.specs.Program.{Program}
use Rattle.machine_state.specs.declared.state.State.{State}
use Rattle.machine_state.specs.declared.state.TaskRow.{TaskRow}
use Rattle.machine_state.specs.Rows.{IsRow}
use Rattle.machine_state.specs.Runs.{IsRun}
use Rattle.machine_state.proofs.lists.Places.{got_one}
use Rattle.seg_journal.specs.declared.numbered.NumberedEntry.{NumberedEntry}
use Rattle.seg_journal.specs.Merging.{has_number, journal_of, prints_of}
use Rattle.floor_laws.specs.rule.Floors.{Floor, Home, Away, Empty, Holds, TurnWord, Free, Taken, New, put}
use Rattle.floor_laws.specs.rule.Fitting.{FloorFits, HomeFits, PhaseFits, TurnFits}
use Rattle.floor_laws.specs.rule.Rows.{slot_of}
use Rattle.floor_laws.specs.rule.Rule.{AreInOrder, KeepsRule, LiesInParts, times_drawn}
use Rattle.floor_laws.specs.rule.Steps.{IsQuiet, ShowsState, floor_at, home_at_start, phase_at_start, turn_at_start}
use Rattle.floor_laws.specs.admission.admission_core.States.{IsAmong}
use Rattle.floor_laws.specs.rule.Touches.{cell_at}
use Rattle.floor_laws.proofs.rule.Puts.{none_some, put_all}
use Rattle.floor_laws.proofs.rule.TurnSteps.{row_phase_fits}

-- how often a number occurs in a list with one entry more in front
count_front : (e : NumberedEntry) (entries : List NumberedEntry) (n : ℕ) → e.number ≡ n → count_by (has_number n) (e ∷ entries) ≡ 1 + count_by (has_number n) entries
count_front e entries n is =
    sum_by-append (λ (x : NumberedEntry). cond {A = ℕ} (has_number n x) 1 0) (e ∷ []) entries
    ∙ ap (λ (b : Bool). (0 + cond {A = ℕ} b 1 0) + count_by (has_number n) entries) (eq-eqb e.number n is)

count_other : (e : NumberedEntry) (entries : List NumberedEntry) (n : ℕ) → e.number ≢ n → count_by (has_number n) (e ∷ entries) ≡ count_by (has_number n) entries
count_other e entries n other =
    sum_by-append (λ (x : NumberedEntry). cond {A = ℕ} (has_number n x) 1 0) (e ∷ []) entries
    ∙ (ap (λ (b : Bool). (0 + cond {A = ℕ} b 1 0) + count_by (has_number n) entries) (ne_eqb e.number n other) ∙ omega arith)

-- Starts.

past_end : (rows : List TaskRow) (t : ℕ) → slice_get rows t ≡ None → length rows ≤ t
past_end [] t is = omega arith
past_end (r ∷ rows) zero is = absurd (cc (is))
past_end (r ∷ rows) (suc t) is = let later = past_end rows t is in omega (arith, later)

module _ (p : Program) (lim : Bounds) (log : List NumberedEntry) (st : State) where
  abbrev f : Floor
  f = floor_at log st

  turn_starts : (t : ℕ) (o : Option TaskRow) → slice_get st.tasks t ≡ o → TurnFits st f.held f.workers t (turn_at_start o)
  turn_starts t None is = inl (past_end st.tasks t is, λ i. refl)
  turn_starts t (Some row) is = (slice_get_within st.tasks t row is, λ i. refl)

  home_starts : (t : ℕ) (o : Option TaskRow) → slice_get st.tasks t ≡ o → HomeFits st f.held t (home_at_start o)
  home_starts t None is = past_end st.tasks t is
  home_starts t (Some row) is = (λ i. refl, record { row = row; there = is; same = refl })

  phase_starts : (t : ℕ) (o : Option TaskRow) → slice_get st.tasks t ≡ o → PhaseFits st t (phase_at_start o)
  phase_starts t None is = tt
  phase_starts t (Some row) is = row_phase_fits st t row is

  starts_fit : FloorFits p st (floor_at log st)
  starts_fit = record {
    asked = refl;
    one_holder = λ i j t turn other at. absurd (none_some at);
    turns = λ t. turn_starts t (slice_get st.tasks t) refl;
    rows = λ i t turn at. absurd (none_some at);
    homes = λ t. home_starts t (slice_get st.tasks t) refl;
    phases = λ t. phase_starts t (slice_get st.tasks t) refl;
    free_phases = λ t row free there. ap phase_at_start there;
    known_phases = λ i t turn at. absurd (none_some at);
    segments = λ i s at. absurd (none_some at);
    reads = λ i s at. absurd (none_some at);
    size = refl;
    written = λ i s c at. absurd (none_some at);
    others = λ c none. refl;
    facts = λ i fact none. absurd none;
  }

  -- seat 0 has drawn all
  abbrev nobody_else : ℕ → ℕ
  nobody_else n = 0

  past_count : (entries : List NumberedEntry) (k n : ℕ) → ((m : ℕ) (e : NumberedEntry) → slice_get entries m ≡ Some e → e.number ≡ k + m) → n < k → count_by (has_number n) entries ≡ 0
  past_count [] k n order below = refl
  past_count (e ∷ entries) k n order below =
      let number : e.number ≡ k = order 0 e refl ∙ omega arith in
      let other : e.number ≢ n = λ same. omega (arith, number, same, below) in
      count_other e entries n other ∙ past_count entries (k + 1) n (λ m x at. order (suc m) x at ∙ omega arith) (omega (arith, below))

  once_by : (entries : List NumberedEntry) (k n : ℕ) → ((m : ℕ) (e : NumberedEntry) → slice_get entries m ≡ Some e → e.number ≡ k + m) → k ≤ n → n < k + length entries
      → count_by (has_number n) entries ≡ 1
  once_by [] k n order low high = absurd (omega (arith, low, high))
  once_by (e ∷ entries) k n order low high =
      let number : e.number ≡ k = order 0 e refl ∙ omega arith in
      let later : (m : ℕ) (x : NumberedEntry) → slice_get entries m ≡ Some x → x.number ≡ (k + 1) + m = λ m x at. order (suc m) x at ∙ omega arith in
      ⊎_elim
      (λ (here : k ≡ n).
      let none = past_count entries (k + 1) n later (omega (arith, here)) in
      let one = count_front e entries n (number ∙ here) in
      omega (arith, one, none))
      (λ (else : k ≢ n).
      count_other e entries n (λ same. else (sym number ∙ same)) ∙ once_by entries (k + 1) n later (omega (arith, low, else)) (omega (arith, high)))
      (cases_eq k n)

  none_past : (entries : List NumberedEntry) (k n : ℕ) → ((m : ℕ) (e : NumberedEntry) → slice_get entries m ≡ Some e → e.number ≡ k + m) → k + length entries ≤ n
      → count_by (has_number n) entries ≡ 0
  none_past [] k n order high = refl
  none_past (e ∷ entries) k n order high =
      let number : e.number ≡ k = order 0 e refl ∙ omega arith in
      count_other e entries n (λ same. omega (arith, number, same, high))
      ∙ none_past entries (k + 1) n (λ m x at. order (suc m) x at ∙ omega arith) (omega (arith, high))

  among_at : (entries : List NumberedEntry) (k : ℕ) (e : NumberedEntry) → ((m : ℕ) (x : NumberedEntry) → slice_get entries m ≡ Some x → x.number ≡ k + m) → IsAmong e entries
      → (m : ℕ) × (slice_get entries m ≡ Some e)
  among_at [] k e order none = absurd none
  among_at (x ∷ entries) k e order (inl same) = (0, ap (λ (y : NumberedEntry). Some y) (sym same))
  among_at (x ∷ entries) k e order (inr later) =
      let rest = among_at entries (k + 1) e (λ m y at. order (suc m) y at ∙ omega arith) later in
      (suc rest.0, rest.1)

  starts_lie : AreInOrder log → LiesInParts log (put (λ i. []) 0 log)
  starts_lie order = record {
    owner = nobody_else;
    entries = put_all (λ (i : ℕ) (part : List NumberedEntry). (e : NumberedEntry) → IsAmong e part → slice_get log e.number ≡ Some e) (λ i. []) 0 log
        (λ e among.
        let at = among_at log 0 e (λ m x there. order m x there ∙ omega arith) among in
        ap (slice_get log) (order at.0 e at.1) ∙ at.1)
        (λ i other e none. absurd none);
    once = put_all (λ (i : ℕ) (part : List NumberedEntry). (n : ℕ) → count_by (has_number n) part ≡ times_drawn log nobody_else i n) (λ i. []) 0 log
        (λ n. own n (nat_lt n (length log)) refl)
        (λ i other n. sym (ap (λ (b : Bool). cond {A = ℕ} (nat_lt n (length log) && b) 1 0) (ne_eqb 0 i (λ same. other (sym same))) ∙ and_none (nat_lt n (length log))));
  }
    where
      and_none : (b : Bool) → cond {A = ℕ} (b && false) 1 0 ≡ 0
      and_none true = refl
      and_none false = refl

      own : (n : ℕ) (b : Bool) → nat_lt n (length log) ≡ b → count_by (has_number n) log ≡ times_drawn log nobody_else 0 n
      own n true is =
          let below = ltb-true n (length log) is in
          once_by log 0 n (λ m x there. order m x there ∙ omega arith) (omega arith) (omega (arith, below))
          ∙ sym (ap (λ (b : Bool). cond {A = ℕ} (b && (0 == 0)) 1 0) is)
      own n false is =
          let past = ltb-false n (length log) is in
          none_past log 0 n (λ m x there. order m x there ∙ omega arith) (omega (arith, past))
          ∙ sym (ap (λ (b : Bool). cond {A = ℕ} (b && (0 == 0)) 1 0) is)

  pub starts : IsRun p lim (journal_of log) st → AreInOrder log → st.prints ≡ prints_of log → KeepsRule p lim log (floor_at log st)
  starts run order prints = record {
    legal = run.legal;
    numbers = order;
    parts = starts_lie order;
    entries = refl;
    prints = ap (λ (s : State). s.prints) (sym run.same) ∙ prints;
    fits = subst (λ (s : State). FloorFits p s (floor_at log st)) run.same starts_fit;
  }

-- Quiet points.

pub same_cells : (a b : List ℤ) → length a ≡ length b → ((c : ℕ) → cell_at a c ≡ cell_at b c) → a ≡ b
same_cells [] [] size same = refl
same_cells [] (y ∷ b) size same = absurd (omega (arith, size))
same_cells (x ∷ a) [] size same = absurd (omega (arith, size))
same_cells (x ∷ a) (y ∷ b) size same =
    let first : x ≡ y = same 0 in
    let rest : a ≡ b = same_cells a b (omega (arith, size)) (λ c. same (suc c)) in
    λ k. first k ∷ rest k

module _ (p : Program) (st : State) (f : Floor) (fits : FloorFits p st f) (quiet : IsQuiet f) where
  free_by : (t : ℕ) (row : TaskRow) → IsRow st t row → (word : TurnWord) → TurnFits st f.held f.workers t word → word ≡ Free
  free_by t row there Free fits_word = refl
  free_by t row there (Taken worker) fits_word = absurd (none_some (sym (quiet.no_turns fits_word.by.seat t) ∙ fits_word.by.has))
  free_by t row there New (inl new) = let below = slice_get_within st.tasks t row there in let past = new.0 in absurd (omega (arith, below, past))
  free_by t row there New (inr first) = absurd (none_some (sym (quiet.no_turns first.by.seat t) ∙ first.by.has))

  holds_by : (t : ℕ) (row : TaskRow) → IsRow st t row → (home : Home) → HomeFits st f.held t home → home ≡ Holds (slot_of row)
  holds_by t row there Away by = absurd (none_some (sym (quiet.no_turns by.seat t) ∙ by.has))
  holds_by t row there Empty past = let below = slice_get_within st.tasks t row there in absurd (omega (arith, below, past))
  holds_by t row there (Holds slot) here =
      ap Holds (here.1.same ∙ ap slot_of (got_one (slice_get st.tasks t) here.1.there there))

  pub shows : ShowsState st f
  shows =
      let free : (t : ℕ) (row : TaskRow) → IsRow st t row → f.turns t ≡ Free = λ t row there. free_by t row there (f.turns t) (fits.turns t) in
      record {
        cells = same_cells f.cells st.cells fits.size (λ c. fits.others c (λ i s at. absurd (none_some (sym (quiet.closed i) ∙ at))));
        asked = fits.asked;
        turns = free;
        phases = λ t row there. fits.free_phases t row (free t row there) there;
        slots = λ t row there. holds_by t row there (f.homes t) (fits.homes t);
      }
