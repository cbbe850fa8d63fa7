-- Each step keeps the rule: the log with it.
use Rattle.std.proofs.Common.{◌≡◌, ◌≢◌, ◌⊎◌, ◌+◌, ◌++◌, ◌<◌, ◌≤◌, ◌&&◌, ℕ, ℤ, Bool, true, false, cond, List, [], ◌∷◌, length, Some, refl, sym, ap, subst, ◌∙◌, inl, inr, ⊎_elim, nat_lt, arith, append_assoc, length-append, eq-eqb, ne_eqb}
use Rattle.std.specs.Prelude.{◌==◌, slice_get, count_by}
use Rattle.std.proofs.lemmas.Bool.{cases_eq, le-ltb, lt-ltb, ltb-false, ltb-true}
use Rattle.std.proofs.lemmas.List.{append-nil, map-append}
use Rattle.std.proofs.lemmas.List.Sums.{sum_by-append}
use Rattle.twe_base.specs.declared.place.Place.{Place}
use Rattle.effect_sets.specs.declared.effects.Summary.{Summary}
use Rattle.twe_base.specs.Limits.{Bounds}
use Rattle.seg_journal.specs.declared.journal.Entry.{Entry}
use Rattle.seg_journal.specs.declared.journal.End.{End}
use Rattle.seg_journal.specs.declared.moves.Kind.TheVariants.{Run}
use Rattle.seg_journal.specs.declared.moves.Move.{Move}
use Rattle.twe_program.specs.Program.{Program}
use Rattle.twe_program.specs.WellFormed.{IsWellFormed}
use Rattle.isolation_laws.specs.soundness.KeepsEffects.{KeepsEffects}
use Rattle.seg_meaning.specs.declared.frame.Frame.{Frame}
use Rattle.seg_meaning.specs.declared.stop.Stop.{Stop}
use Rattle.seg_meaning.specs.declared.stop.Stop.TheVariants as stops
use Rattle.seg_meaning.specs.Access.{Access, Reads, Writes, after}
use Rattle.isolation_laws.specs.soundness.DeclaredNow.{access_of}
use Rattle.machine_state.specs.declared.state.State.{State}
use Rattle.machine_state.specs.Changes.{IsDoneWith}
use Rattle.machine_state.specs.Moves.{new_row, parent_of, result_by_kind}
use Rattle.machine_state.specs.Rows.{LinksAgree}
use Rattle.machine_state.specs.Runs.{IsReached, IsRun, entry_of, state_after}
use Rattle.machine_state.proofs.lists.Places.{count_put, put_before, put_cases, put_last}
use Rattle.machine_state.proofs.standing.ReachedStands.{reached_stands}
use Rattle.machine_state.proofs.replays.Replayed.{run_more}
use Rattle.isolation_laws.specs.Conflicts.{MoversApart}
use Rattle.isolation_laws.specs.CoveredNow.{CoveredNow}
use Rattle.isolation_laws.proofs.running.Covered.{reached_covered}
use Rattle.isolation_laws.proofs.running.Movers.{movers_apart}
use Rattle.seg_journal.specs.declared.numbered.NumberedEntry.{NumberedEntry}
use Rattle.seg_journal.specs.Merging.{has_number, journal_of, prints_of}
use Rattle.floor_laws.specs.declared.rule.view.HeldTurn.{HeldTurn}
use Rattle.floor_laws.specs.declared.rule.view.OpenSegment.{OpenSegment}
use Rattle.floor_laws.specs.declared.rule.view.Phase.{Phase}
use Rattle.floor_laws.specs.declared.rule.view.Phase.TheVariants.{Done}
use Rattle.floor_laws.specs.rule.Floors.{Floor, Free, Holds, put}
use Rattle.floor_laws.specs.rule.Fitting.{FloorFits}
use Rattle.floor_laws.specs.rule.Rows.{slot_of}
use Rattle.floor_laws.specs.rule.Rule.{KeepsRule, LiesInParts, times_drawn}
use Rattle.floor_laws.specs.rule.Steps.{HasNoTurn, MayCommit, MayGive, MayJoin, MayStorePhase, MayTouch, after_entry, after_finding_done, after_giving, after_join, after_load, after_phase, after_split, after_store, after_taking, entry_drawn, row_with_child, without_child}
use Rattle.floor_laws.specs.admission.admission_core.States.{IsAmong}
use Rattle.floor_laws.specs.rule.Touches.{accesses_of, cell_at, is_written}
use Rattle.floor_laws.proofs.rule.Puts.{put_all, put_else, put_here, put_was}
use Rattle.floor_laws.proofs.rule.AccessLemmas.{writer_of}
use Rattle.floor_laws.proofs.rule.SegmentLemmas.{access_covered, clash, open_accesses}
use Rattle.floor_laws.proofs.rule.TurnSteps.{finding_done, giving, joining, splitting, storing_phase, taking}
use Rattle.floor_laws.proofs.rule.CellSteps.{found_is, loading, storing}
use Rattle.floor_laws.proofs.rule.EntrySteps.{IsOneEntry, committing, end_is, may_move, one_entry, prints_are}

-- How often a seat has drawn a number.

-- it has not, if there is no such entry
drawn_never : (log : List NumberedEntry) (owner : ℕ → ℕ) (i n : ℕ) → length log ≤ n → times_drawn log owner i n ≡ 0
drawn_never log owner i n past = ap (λ (b : Bool). cond {A = ℕ} (b && (owner n == i)) 1 0) (le-ltb n (length log) past)

drawn_at : (log : List NumberedEntry) (owner : ℕ → ℕ) (i n : ℕ) → n < length log → times_drawn log owner i n ≡ cond {A = ℕ} (owner n == i) 1 0
drawn_at log owner i n below = ap (λ (b : Bool). cond {A = ℕ} (b && (owner n == i)) 1 0) (lt-ltb n (length log) below)

-- the owner alone plays a part
drawn_by : (log : List NumberedEntry) (owner other : ℕ → ℕ) (i j n : ℕ) → (owner n == i) ≡ (other n == j) → times_drawn log owner i n ≡ times_drawn log other j n
drawn_by log owner other i j n same = ap (λ (b : Bool). cond {A = ℕ} (nat_lt n (length log) && b) 1 0) same

-- One entry more, of seat i.
module _ (log : List NumberedEntry) (parts : ℕ → List NumberedEntry) (lies : LiesInParts log parts) (i : ℕ) (e : NumberedEntry) (number : e.number ≡ length log) where
  abbrev more : List NumberedEntry
  more = log ++ e ∷ []

  abbrev owner : ℕ → ℕ
  owner = put lies.owner (length log) i

  more_length : length more ≡ length log + 1
  more_length = length-append log (e ∷ [])

  -- an earlier number was drawn as often
  earlier : (j n : ℕ) → n ≢ length log → times_drawn more owner j n ≡ times_drawn log lies.owner j n
  earlier j n other =
      elim (cases_lt n) [
        | inl below ↦
            drawn_at more owner j n (omega (arith, more_length, below))
            ∙ (ap (λ (k : ℕ). cond {A = ℕ} (k == j) 1 0) (put_else lies.owner (length log) n i other) ∙ sym (drawn_at log lies.owner j n below))
        | inr past ↦ drawn_never more owner j n (omega (arith, more_length, past, other)) ∙ sym (drawn_never log lies.owner j n past)
      ]
    where
      lt_or_ge : (n m : ℕ) (b : Bool) → nat_lt n m ≡ b → (n < m) ⊎ (m ≤ n)
      lt_or_ge n m true is = inl (ltb-true n m is)
      lt_or_ge n m false is = inr (ltb-false n m is)

      cases_lt : (n : ℕ) → (n < length log) ⊎ (length log ≤ n)
      cases_lt n = lt_or_ge n (length log) (nat_lt n (length log)) refl

  last_own : times_drawn more owner i (length log) ≡ 1
  last_own =
      drawn_at more owner i (length log) (omega (arith, more_length))
      ∙ (ap (λ (k : ℕ). cond {A = ℕ} (k == i) 1 0) (put_here lies.owner (length log) i) ∙ ap (λ (b : Bool). cond {A = ℕ} b 1 0) (eq-eqb i i refl))

  last_other : (j : ℕ) → j ≢ i → times_drawn more owner j (length log) ≡ 0
  last_other j other =
      drawn_at more owner j (length log) (omega (arith, more_length))
      ∙ (ap (λ (k : ℕ). cond {A = ℕ} (k == j) 1 0) (put_here lies.owner (length log) i) ∙ ap (λ (b : Bool). cond {A = ℕ} b 1 0) (ne_eqb i j (λ same. other (sym same))))

  none_last : (j : ℕ) → count_by (has_number (length log)) (parts j) ≡ 0
  none_last j = lies.once j (length log) ∙ drawn_never log lies.owner j (length log) (omega arith)

  has_it : (n : ℕ) → n ≡ length log → has_number n e ≡ true
  has_it n is = eq-eqb e.number n (number ∙ sym is)

  has_not : (n : ℕ) → n ≢ length log → has_number n e ≡ false
  has_not n other = ne_eqb e.number n (λ same. other (sym same ∙ number))

  own_once : (n : ℕ) → count_by (has_number n) (parts i ++ e ∷ []) ≡ times_drawn more owner i n
  own_once n =
      count_put (has_number n) (parts i) e
      ∙ ⊎_elim
      (λ (last : n ≡ length log).
      let none : count_by (has_number n) (parts i) ≡ 0 = ap (λ (k : ℕ). count_by (has_number k) (parts i)) last ∙ none_last i in
      let one : cond {A = ℕ} (has_number n e) 1 0 ≡ 1 = ap (λ (b : Bool). cond {A = ℕ} b 1 0) (has_it n last) in
      let sum : count_by (has_number n) (parts i) + cond {A = ℕ} (has_number n e) 1 0 ≡ 1 = omega (arith, none, one) in
      sum ∙ (sym last_own ∙ ap (times_drawn more owner i) (sym last)))
      (λ (other : n ≢ length log).
      let none : cond {A = ℕ} (has_number n e) 1 0 ≡ 0 = ap (λ (b : Bool). cond {A = ℕ} b 1 0) (has_not n other) in
      let sum : count_by (has_number n) (parts i) + cond {A = ℕ} (has_number n e) 1 0 ≡ count_by (has_number n) (parts i) = omega (arith, none) in
      sum ∙ (lies.once i n ∙ sym (earlier i n other)))
      (cases_eq n (length log))

  other_once : (j n : ℕ) → j ≢ i → count_by (has_number n) (parts j) ≡ times_drawn more owner j n
  other_once j n differ =
      ⊎_elim
      (λ (last : n ≡ length log).
      ap (λ (k : ℕ). count_by (has_number k) (parts j)) last ∙ (none_last j ∙ (sym (last_other j differ) ∙ ap (times_drawn more owner j) (sym last))))
      (λ (other : n ≢ length log). lies.once j n ∙ sym (earlier j n other))
      (cases_eq n (length log))

  own_entry : (part : List NumberedEntry) (x : NumberedEntry) → ((y : NumberedEntry) → IsAmong y part → slice_get log y.number ≡ Some y) → IsAmong x (part ++ e ∷ []) → slice_get more x.number ≡ Some x
  own_entry [] x before (inl same) =
      subst (λ (y : NumberedEntry). slice_get more y.number ≡ Some y) (sym same) (put_last log e e.number number)
  own_entry [] x before (inr none) = absurd none
  own_entry (y ∷ part) x before (inl same) = put_before log e x.number x (before x (inl same))
  own_entry (y ∷ part) x before (inr later) = own_entry part x (λ z among. before z (inr among)) later

  pub lies_more : LiesInParts more (put parts i (parts i ++ e ∷ []))
  lies_more = record {
    owner = owner;
    entries = put_all (λ (j : ℕ) (part : List NumberedEntry). (x : NumberedEntry) → IsAmong x part → slice_get more x.number ≡ Some x) parts i (parts i ++ e ∷ [])
        (λ x among. own_entry (parts i) x (lies.entries i) among)
        (λ j other x among. put_before log e x.number x (lies.entries j x among));
    once = put_all (λ (j : ℕ) (part : List NumberedEntry). (n : ℕ) → count_by (has_number n) part ≡ times_drawn more owner j n) parts i (parts i ++ e ∷ []) own_once (λ j other n. other_once j n other);
  }

-- The entries of seat j move to seat i.
module _ (log : List NumberedEntry) (parts : ℕ → List NumberedEntry) (lies : LiesInParts log parts) (i j : ℕ) (differ : j ≢ i) where
  abbrev owner_by : ℕ → Bool → ℕ
  owner_by n b = cond {A = ℕ} b i (lies.owner n)

  abbrev joined_owner : ℕ → ℕ
  joined_owner n = owner_by n (lies.owner n == j)

  abbrev both : List NumberedEntry
  both = parts i ++ parts j

  was_at : (n : ℕ) → lies.owner n ≡ j → joined_owner n ≡ i
  was_at n at = ap (owner_by n) (eq-eqb (lies.owner n) j at)

  was_else : (n : ℕ) → lies.owner n ≢ j → joined_owner n ≡ lies.owner n
  was_else n else = ap (owner_by n) (ne_eqb (lies.owner n) j else)

  -- neither, or one, of two seats has drawn it
  sum_at : (n : ℕ) → times_drawn log lies.owner i n + times_drawn log lies.owner j n ≡ times_drawn log joined_owner i n
  sum_at n =
      ⊎_elim
      (λ (at : lies.owner n ≡ j).
      let here : (lies.owner n == j) ≡ (joined_owner n == i) = eq-eqb (lies.owner n) j at ∙ sym (eq-eqb (joined_owner n) i (was_at n at)) in
      let none : (lies.owner n == i) ≡ false = ne_eqb (lies.owner n) i (λ same. differ (sym at ∙ same)) in
      let zero : times_drawn log lies.owner i n ≡ 0 = drawn_none n i none in
      let same : times_drawn log lies.owner j n ≡ times_drawn log joined_owner i n = drawn_by log lies.owner joined_owner j i n here in
      omega (arith, zero, same))
      (λ (else : lies.owner n ≢ j).
      let here : (lies.owner n == i) ≡ (joined_owner n == i) = ap (λ (k : ℕ). k == i) (sym (was_else n else)) in
      let none : (lies.owner n == j) ≡ false = ne_eqb (lies.owner n) j else in
      let zero : times_drawn log lies.owner j n ≡ 0 = drawn_none n j none in
      let same : times_drawn log lies.owner i n ≡ times_drawn log joined_owner i n = drawn_by log lies.owner joined_owner i i n here in
      omega (arith, zero, same))
      (cases_eq (lies.owner n) j)
    where
      and_none : (b : Bool) → cond {A = ℕ} (b && false) 1 0 ≡ 0
      and_none true = refl
      and_none false = refl

      drawn_none : (n k : ℕ) → (lies.owner n == k) ≡ false → times_drawn log lies.owner k n ≡ 0
      drawn_none n k none = ap (λ (b : Bool). cond {A = ℕ} (nat_lt n (length log) && b) 1 0) none ∙ and_none (nat_lt n (length log))

  both_once : (n : ℕ) → count_by (has_number n) both ≡ times_drawn log joined_owner i n
  both_once n =
      let sum : count_by (has_number n) both ≡ count_by (has_number n) (parts i) + count_by (has_number n) (parts j) = sum_by-append (λ (x : NumberedEntry). cond {A = ℕ} (has_number n x) 1 0) (parts i) (parts j) in
      let at_i = lies.once i n in
      let at_j = lies.once j n in
      let all = sum_at n in
      omega (arith, sum, at_i, at_j, all)

  left_once : (n : ℕ) → 0 ≡ times_drawn log joined_owner j n
  left_once n =
      ⊎_elim
      (λ (at : lies.owner n ≡ j).
      sym (ap (λ (b : Bool). cond {A = ℕ} (nat_lt n (length log) && b) 1 0) (ne_eqb (joined_owner n) j (λ same. differ (sym same ∙ was_at n at))) ∙ and_none (nat_lt n (length log))))
      (λ (else : lies.owner n ≢ j).
      sym (ap (λ (b : Bool). cond {A = ℕ} (nat_lt n (length log) && b) 1 0) (ne_eqb (joined_owner n) j (λ same. else (sym (was_else n else) ∙ same))) ∙ and_none (nat_lt n (length log))))
      (cases_eq (lies.owner n) j)
    where
      and_none : (b : Bool) → cond {A = ℕ} (b && false) 1 0 ≡ 0
      and_none true = refl
      and_none false = refl

  rest_once : (k n : ℕ) → k ≢ i → k ≢ j → count_by (has_number n) (parts k) ≡ times_drawn log joined_owner k n
  rest_once k n not_i not_j =
      lies.once k n
      ∙ ⊎_elim
      (λ (at : lies.owner n ≡ j).
      drawn_by log lies.owner joined_owner k k n
      (ne_eqb (lies.owner n) k (λ same. not_j (sym same ∙ at)) ∙ sym (ne_eqb (joined_owner n) k (λ same. not_i (sym same ∙ was_at n at)))))
      (λ (else : lies.owner n ≢ j). drawn_by log lies.owner joined_owner k k n (ap (λ (m : ℕ). m == k) (sym (was_else n else))))
      (cases_eq (lies.owner n) j)

  among_both : (a b : List NumberedEntry) (x : NumberedEntry) → ((y : NumberedEntry) → IsAmong y a → slice_get log y.number ≡ Some y) → ((y : NumberedEntry) → IsAmong y b → slice_get log y.number ≡ Some y)
      → IsAmong x (a ++ b) → slice_get log x.number ≡ Some x
  among_both [] b x here there among = there x among
  among_both (y ∷ a) b x here there (inl same) = here x (inl same)
  among_both (y ∷ a) b x here there (inr later) = among_both a b x (λ z among. here z (inr among)) there later

  pub lies_joined : LiesInParts log (put (put parts i both) j [])
  lies_joined = record {
    owner = joined_owner;
    entries = put_all (λ (k : ℕ) (part : List NumberedEntry). (x : NumberedEntry) → IsAmong x part → slice_get log x.number ≡ Some x) (put parts i both) j []
        (λ x none. absurd none)
        (λ k other. put_all (λ (m : ℕ) (part : List NumberedEntry). (x : NumberedEntry) → IsAmong x part → slice_get log x.number ≡ Some x) parts i both
        (λ x among. among_both (parts i) (parts j) x (lies.entries i) (lies.entries j) among)
        (λ m else. lies.entries m)
        k);
    once = λ k n.
        put_was_once k n (put (put parts i both) j [] k) refl;
  }
    where
      put_was_once : (k n : ℕ) (part : List NumberedEntry) → put (put parts i both) j [] k ≡ part → count_by (has_number n) part ≡ times_drawn log joined_owner k n
      put_was_once k n part is =
          elim (put_was (put parts i both) j k [] part is) [
            | inl at_j ↦
                subst (λ (l : List NumberedEntry). count_by (has_number n) l ≡ times_drawn log joined_owner k n) at_j.1
                (left_once n ∙ ap (λ (m : ℕ). times_drawn log joined_owner m n) (sym at_j.0))
            | inr not_j ↦ elim (put_was parts i k both part not_j.1) [
              | inl at_i ↦
                  subst (λ (l : List NumberedEntry). count_by (has_number n) l ≡ times_drawn log joined_owner k n) at_i.1
                  (both_once n ∙ ap (λ (m : ℕ). times_drawn log joined_owner m n) (sym at_i.0))
              | inr not_i ↦
                  subst (λ (l : List NumberedEntry). count_by (has_number n) l ≡ times_drawn log joined_owner k n) not_i.1
                  (rest_once k n not_i.0 not_j.0)
            ]
          ]

prints_more : (log : List NumberedEntry) (e : NumberedEntry) → prints_of (log ++ e ∷ []) ≡ prints_of log ++ e.prints
prints_more [] e = append-nil e.prints
prints_more (x ∷ log) e = ap (λ (l : List ℤ). x.prints ++ l) (prints_more log e) ∙ sym (append_assoc x.prints (prints_of log) e.prints)

module _ (p : Program) (well : IsWellFormed p) (keeps : KeepsEffects p) (lim : Bounds) (log : List NumberedEntry) (f : Floor) (rule : KeepsRule p lim log f) where
  abbrev st : State
  st = state_after p lim (journal_of log)

  reached : IsReached p lim (state_after p lim (journal_of log))
  reached = record { journal = journal_of log; legal = rule.legal; same = refl }

  agree : LinksAgree (state_after p lim (journal_of log))
  agree = (reached_stands p lim (state_after p lim (journal_of log)) well reached).links

  apart : MoversApart p (state_after p lim (journal_of log))
  apart = movers_apart p well keeps lim (state_after p lim (journal_of log)) reached

  -- a step that draws no entry
  keep : (g : Floor) → g.entries ≡ f.entries → LiesInParts log g.parts → FloorFits p (state_after p lim (journal_of log)) g → KeepsRule p lim log g
  keep g entries parts fits = record {
    legal = rule.legal;
    numbers = rule.numbers;
    parts = parts;
    entries = entries ∙ rule.entries;
    prints = rule.prints;
    fits = fits;
  }

  pub take : (i t : ℕ) → f.turns t ≡ Free → (turn : HeldTurn) × (turn.first ≡ false) × (f.homes t ≡ Holds (slot_of turn.row)) × KeepsRule p lim log (after_taking f i t turn)
  take i t free =
      let taken = taking p st f rule.fits i t free in
      (taken.0, taken.1, taken.2, keep (after_taking f i t taken.0) refl rule.parts taken.3)

  pub give : (i t : ℕ) (turn : HeldTurn) → MayGive f i t turn → KeepsRule p lim log (after_giving f i t turn)
  give i t turn may = keep (after_giving f i t turn) refl rule.parts (giving p st f rule.fits i t turn may)

  pub store_phase : (i t : ℕ) (turn : HeldTurn) (phase : Phase) → MayStorePhase f i t turn phase → KeepsRule p lim log (after_phase f i t turn phase)
  store_phase i t turn phase may = keep (after_phase f i t turn phase) refl rule.parts (storing_phase p st f rule.fits i t turn phase may)

  pub find_done : (i t : ℕ) → f.phases t ≡ Done → (value : ℤ) × IsDoneWith (state_after p lim (journal_of log)) t value × KeepsRule p lim log (after_finding_done f i t value)
  find_done i t is =
      let found = finding_done p st f rule.fits i t is in
      (found.0, found.1, keep (after_finding_done f i t found.0) refl rule.parts found.2)

  pub split : (i worker : ℕ) → HasNoTurn f i → KeepsRule p lim log (after_split f i worker)
  split i worker none = keep (after_split f i worker) refl rule.parts (splitting p st f rule.fits i worker none)

  pub join : (i j : ℕ) → MayJoin f i j → KeepsRule p lim log (after_join f i j)
  join i j may = keep (after_join f i j) refl (lies_joined log f.parts rule.parts i j may.other) (joining p st f rule.fits i j may)

  pub load_finds : (i t c : ℕ) (value : ℤ) → value ≡ cell_at f.cells c → MayTouch p f i t (Reads c value) → value ≡ cell_at (after (state_after p lim (journal_of log)).cells (open_accesses f i)) c
  load_finds i t c value found may = found_is p st f rule.fits agree apart i t c value found may

  pub load : (i t c : ℕ) (value : ℤ) → value ≡ cell_at f.cells c → MayTouch p f i t (Reads c value) → KeepsRule p lim log (after_load f i t c value)
  load i t c value found may = keep (after_load f i t c value) refl rule.parts (loading p st f rule.fits agree apart i t c value found may)

  pub store : (i t c : ℕ) (value : ℤ) → MayTouch p f i t (Writes c value) → KeepsRule p lim log (after_store f i t c value)
  store i t c value may = keep (after_store f i t c value) refl rule.parts (storing p st f rule.fits agree apart i t c value may)

  -- Open segments.

  pub opened_covered : (i : ℕ) (s : OpenSegment) (access : Access) → f.segments i ≡ Some s → IsAmong access (accesses_of s.touches) → CoveredNow (state_after p lim (journal_of log)) s.task (access_of p access)
  opened_covered i s access is among = access_covered p st f rule.fits agree apart (reached_covered p well keeps lim st reached) i s access is among

  pub opened_apart : (i j c : ℕ) (s r : OpenSegment) (value : ℤ) → i ≢ j → f.segments i ≡ Some s → f.segments j ≡ Some r → is_written c (accesses_of s.touches) ≡ true
      → ¬ IsAmong (Reads c value) (accesses_of r.touches) × ¬ IsAmong (Writes c value) (accesses_of r.touches)
  opened_apart i j c s r value differ at_i at_j written =
      let a = rule.fits.segments i s at_i in
      let b = rule.fits.segments j r at_j in
      let writer = writer_of (accesses_of s.touches) c written in
      let write = Writes c writer.0 in (
        λ among. clash p st f rule.fits agree apart i j s.task r.task a.turn b.turn a.ready b.ready differ a.has b.has a.may b.may write (Reads c value) (a.made write writer.1) (b.made (Reads c value) among) (refl, refl),
        λ among. clash p st f rule.fits agree apart i j s.task r.task a.turn b.turn a.ready b.ready differ a.has b.has a.may b.may write (Writes c value) (a.made write writer.1) (b.made (Writes c value) among) (refl, refl),
      )

  -- An entry.
  module _ (i t : ℕ) (turn : HeldTurn) (frame : Frame) (stop : Stop) (may : MayCommit p f i t turn frame stop) where
    abbrev e : NumberedEntry
    e = entry_drawn lim f t frame stop

    abbrev move : Move
    move = record { kind = Run; task = t }

    run_now : IsRun p lim (journal_of log) st
    run_now = record { legal = rule.legal; same = refl }

    run_then : IsRun p lim (journal_of log ++ entry_of p lim st move ∷ []) (result_by_kind p lim st Run t).0
    run_then = run_more p lim (journal_of log) st move run_now (may_move p well lim st reached apart f rule.fits i t turn frame stop may)

    entry_same : entry_of p lim st move ≡ e.entry
    entry_same = ap (λ (end : End). record { mv = move; end = end }) (end_is p well lim st reached apart f rule.fits i t turn frame stop may)

    journal_same : journal_of log ++ entry_of p lim st move ∷ [] ≡ journal_of (log ++ e ∷ [])
    journal_same = ap (λ (x : Entry). journal_of log ++ x ∷ []) entry_same ∙ sym (map-append (λ (x : NumberedEntry). x.entry) log (e ∷ []))

    run_is : IsRun p lim (journal_of (log ++ e ∷ [])) (result_by_kind p lim st Run t).0
    run_is = subst (λ (journal : List Entry). IsRun p lim journal (result_by_kind p lim st Run t).0) journal_same run_then

    drawn : (g : Floor) → g.parts ≡ put f.parts i (f.parts i ++ e ∷ []) → g.entries ≡ f.entries + 1 → FloorFits p (result_by_kind p lim st Run t).0 g → KeepsRule p lim (log ++ e ∷ []) g
    drawn g parts entries fits = record {
      legal = run_is.legal;
      numbers = λ n x at.
          elim (put_cases log e n x at) [
            | inl before ↦ rule.numbers n x before
            | inr last ↦ ap (λ (y : NumberedEntry). y.number) (sym last.1) ∙ (rule.entries ∙ sym last.0)
          ];
      parts = subst (LiesInParts (log ++ e ∷ [])) (sym parts) (lies_more log f.parts rule.parts i e rule.entries);
      entries = entries ∙ (ap (λ (n : ℕ). n + 1) rule.entries ∙ sym (length-append log (e ∷ [])));
      prints =
          ap (λ (s : State). s.prints) (sym run_is.same)
          ∙ (prints_are p well lim st reached apart f rule.fits i t turn frame stop may ∙ (ap (λ (l : List ℤ). l ++ frame.prints) rule.prints ∙ sym (prints_more log e)));
      fits = subst (λ (s : State). FloorFits p s g) run_is.same fits;
    }

  module _ (i t : ℕ) (turn : HeldTurn) (frame : Frame) where
    abbrev made_by_stop : Bool → Frame → List ℤ → Summary → Bool → ℕ → Place → Floor
    made_by_stop b child args effects spawned future place =
        let drawn_floor = without_child lim f i t turn frame (stops.Make child args effects spawned future place) in
        cond {A = Floor} b (row_with_child drawn_floor i (f.asked + 1) (new_row lim (f.asked + 1) (parent_of t spawned) child args effects)) drawn_floor

    parts_made : (b : Bool) (child : Frame) (args : List ℤ) (effects : Summary) (spawned : Bool) (future : ℕ) (place : Place)
        → (made_by_stop b child args effects spawned future place).parts ≡ put f.parts i (f.parts i ++ entry_drawn lim f t frame (stops.Make child args effects spawned future place) ∷ [])
    parts_made true child args effects spawned future place = refl
    parts_made false child args effects spawned future place = refl

    entries_made : (b : Bool) (child : Frame) (args : List ℤ) (effects : Summary) (spawned : Bool) (future : ℕ) (place : Place)
        → (made_by_stop b child args effects spawned future place).entries ≡ f.entries + 1
    entries_made true child args effects spawned future place = refl
    entries_made false child args effects spawned future place = refl

    pub commit : (stop : Stop) → MayCommit p f i t turn frame stop → KeepsRule p lim (log ++ entry_drawn lim f t frame stop ∷ []) (after_entry lim f i t turn frame stop)
    commit (stops.Make child args effects spawned future place) may =
        let stop = stops.Make child args effects spawned future place in
        drawn i t turn frame stop may (after_entry lim f i t turn frame stop)
        (parts_made (nat_lt (f.asked + 1) lim.tasks) child args effects spawned future place)
        (entries_made (nat_lt (f.asked + 1) lim.tasks) child args effects spawned future place)
        (committing p well lim st reached apart f rule.fits i t turn frame stop may)
    commit (stops.Waits on) may = drawn i t turn frame (stops.Waits on) may _ refl refl (committing p well lim st reached apart f rule.fits i t turn frame (stops.Waits on) may)
    commit (stops.Joins on) may = drawn i t turn frame (stops.Joins on) may _ refl refl (committing p well lim st reached apart f rule.fits i t turn frame (stops.Joins on) may)
    commit (stops.Done value) may = drawn i t turn frame (stops.Done value) may _ refl refl (committing p well lim st reached apart f rule.fits i t turn frame (stops.Done value) may)
    commit (stops.Fault kind place) may = drawn i t turn frame (stops.Fault kind place) may _ refl refl (committing p well lim st reached apart f rule.fits i t turn frame (stops.Fault kind place) may)

  -- a seat may draw one entry of a task
  pub one_drawn : (i t : ℕ) (turn : HeldTurn) (frame other : Frame) (stop last : Stop) → MayCommit p f i t turn frame stop → MayCommit p f i t turn other last → IsOneEntry frame other stop last
  one_drawn i t turn frame other stop last may may_other = one_entry p well lim st reached apart f rule.fits i t turn frame other stop last may may_other
