-- A seat that is the only one has drawn all entries, and no other has a turn.
use Rattle.std.proofs.Common.{◌≡◌, ◌≢◌, ◌+◌, ◌<◌, ◌≤◌, ◌&&◌, ℕ, zero, suc, Bool, true, false, cond, List, [], ◌∷◌, length, get_or, None, refl, sym, ap, subst, ◌∙◌, inl, inr, ⊎_elim, arith, nat_lt, eq-eqb, ne_eqb}
use Rattle.std.specs.Prelude.{◌==◌, slice_get, count_by, Contains}
use Rattle.std.proofs.lemmas.Bool.{cases_eq, le-ltb, lt-ltb, ltb-false, ltb-true}
use Rattle.std.proofs.lemmas.List.{append-nil}
use Rattle.std.proofs.lemmas.List.Sums.{sum_by-append}
use Rattle.std.proofs.lemmas.Option.{slice_get_within}
use mathlib.Core.Option as core
use lib.ListN.{get_elem?}
use Rattle.twe_base.specs.Limits.{Bounds}
use Rattle.twe_program.specs.Program.{Program}
use Rattle.seg_journal.specs.declared.numbered.NumberedEntry.{NumberedEntry}
use Rattle.seg_journal.specs.Merging.{AreNumbered, IsMergeOf, all_of, has_number}
use Rattle.seg_journal.proofs.Slots.{in_contains, occurs}
use Rattle.floor_laws.specs.rule.Floors.{Floor}
use Rattle.floor_laws.specs.rule.Rule.{LiesInParts, times_drawn}
use Rattle.floor_laws.specs.admission.admission_core.States.{IsAmong}
use Rattle.floor_laws.proofs.rule.Puts.{some_one}
use Rattle.floor_laws.specs.declared.table.view.SeatKind.TheVariants.{Main}
use Rattle.floor_laws.specs.declared.table.view.View.{View}
use Rattle.floor_laws.specs.table.FloorOf.{Table, floor_of, part_at, segment_at, turns_at}
use Rattle.floor_laws.specs.table.Holds.{TableKeeps}
use Rattle.floor_laws.proofs.table.SeatKinds.{others_have_nothing}

-- Parts have one merge.

pub same_entries : (a b : List NumberedEntry) → length a ≡ length b → ((n : ℕ) → n < length a → slice_get a n ≡ slice_get b n) → a ≡ b
same_entries [] [] size same = refl
same_entries [] (y ∷ b) size same = absurd (omega (arith, size))
same_entries (x ∷ a) [] size same = absurd (omega (arith, size))
same_entries (x ∷ a) (y ∷ b) size same =
    let first : x ≡ y = some_one (same 0 (omega arith)) in
    let rest : a ≡ b = same_entries a b (omega (arith, size)) (λ n below. same (suc n) (omega (arith, below))) in
    λ k. first k ∷ rest k

pub one_merge : (parts : List (List NumberedEntry)) (a b : List NumberedEntry) → AreNumbered parts → IsMergeOf parts a → IsMergeOf parts b → a ≡ b
one_merge parts a b numbered one two =
    let size_a = one.size in
    same_entries a b (one.size ∙ sym two.size) (λ n below.
    let e = occurs (all_of parts) n (numbered.once n (omega (arith, below, size_a))) in
    let has = in_contains (all_of parts) e.0 e.1 in
    subst (λ (k : ℕ). slice_get a k ≡ slice_get b k) e.2 (one.entries e.0 has ∙ sym (two.entries e.0 has)))

-- A list whose numbers are 0 to n - 1, each once, has n entries.

count_cons : (test : NumberedEntry → Bool) (e : NumberedEntry) (xs : List NumberedEntry) → count_by test (e ∷ xs) ≡ cond {A = ℕ} (test e) 1 0 + count_by test xs
count_cons test e xs = sum_by-append (λ (x : NumberedEntry). cond {A = ℕ} (test x) 1 0) (e ∷ []) xs ∙ ap (λ (n : ℕ). n + count_by test xs) zero_left
  where
    zero_left : 0 + cond {A = ℕ} (test e) 1 0 ≡ cond {A = ℕ} (test e) 1 0
    zero_left = omega arith

one_more : (a n : ℕ) → cond {A = ℕ} (nat_lt a (suc n)) 1 0 ≡ cond {A = ℕ} (nat_lt a n) 1 0 + cond {A = ℕ} (a == n) 1 0
one_more a n = by (nat_lt a n) refl
  where
    is_one : (b : Bool) → b ≡ true → cond {A = ℕ} b 1 0 ≡ 1
    is_one b is = ap (λ (t : Bool). cond {A = ℕ} t 1 0) is

    is_zero : (b : Bool) → b ≡ false → cond {A = ℕ} b 1 0 ≡ 0
    is_zero b is = ap (λ (t : Bool). cond {A = ℕ} t 1 0) is

    by : (b : Bool) → nat_lt a n ≡ b → cond {A = ℕ} (nat_lt a (suc n)) 1 0 ≡ cond {A = ℕ} (nat_lt a n) 1 0 + cond {A = ℕ} (a == n) 1 0
    by true is =
        let below = ltb-true a n is in
        let now = is_one (nat_lt a (suc n)) (lt-ltb a (suc n) (omega (arith, below))) in
        let then = is_one (nat_lt a n) is in
        let other = is_zero (a == n) (ne_eqb a n (λ same. omega (arith, same, below))) in
        omega (arith, now, then, other)
    by false is =
        let past = ltb-false a n is in
        let then = is_zero (nat_lt a n) is in
        ⊎_elim
        (λ (same : a ≡ n).
        let now = is_one (nat_lt a (suc n)) (lt-ltb a (suc n) (omega (arith, same))) in
        let one = is_one (a == n) (eq-eqb a n same) in
        omega (arith, now, then, one))
        (λ (other : a ≢ n).
        let now = is_zero (nat_lt a (suc n)) (le-ltb a (suc n) (omega (arith, past, other))) in
        let zero_now = is_zero (a == n) (ne_eqb a n other) in
        omega (arith, now, then, zero_now))
        (cases_eq a n)

count_more : (n : ℕ) (xs : List NumberedEntry) → count_by (λ e. nat_lt e.number (suc n)) xs ≡ count_by (λ e. nat_lt e.number n) xs + count_by (has_number n) xs
count_more n [] = omega arith
count_more n (e ∷ xs) =
    let rest = count_more n xs in
    let now = count_cons (λ x. nat_lt x.number (suc n)) e xs in
    let then = count_cons (λ x. nat_lt x.number n) e xs in
    let has = count_cons (has_number n) e xs in
    let one = one_more e.number n in
    omega (arith, rest, now, then, has, one)

count_none : (xs : List NumberedEntry) → count_by (λ e. nat_lt e.number 0) xs ≡ 0
count_none [] = refl
count_none (e ∷ xs) =
    let rest = count_none xs in
    let now = count_cons (λ x. nat_lt x.number 0) e xs in
    let zero_now : cond {A = ℕ} (nat_lt e.number 0) 1 0 ≡ 0 = ap (λ (b : Bool). cond {A = ℕ} b 1 0) (le-ltb e.number 0 (omega arith)) in
    omega (arith, rest, now, zero_now)

count_all : (n : ℕ) (xs : List NumberedEntry) → ((e : NumberedEntry) → IsAmong e xs → e.number < n) → count_by (λ e. nat_lt e.number n) xs ≡ length xs
count_all n [] within = refl
count_all n (e ∷ xs) within =
    let rest = count_all n xs (λ x among. within x (inr among)) in
    let now = count_cons (λ x. nat_lt x.number n) e xs in
    let one : cond {A = ℕ} (nat_lt e.number n) 1 0 ≡ 1 = ap (λ (b : Bool). cond {A = ℕ} b 1 0) (lt-ltb e.number n (within e (inl refl))) in
    omega (arith, rest, now, one)

count_to : (n m : ℕ) (xs : List NumberedEntry) → n ≤ m → ((k : ℕ) → k < m → count_by (has_number k) xs ≡ 1) → count_by (λ e. nat_lt e.number n) xs ≡ n
count_to zero m xs le once = count_none xs
count_to (suc n) m xs le once =
    let rest = count_to n m xs (omega (arith, le)) once in
    let more = count_more n xs in
    let one = once n (omega (arith, le)) in
    omega (arith, rest, more, one)

as_many : (n : ℕ) (xs : List NumberedEntry) → ((e : NumberedEntry) → IsAmong e xs → e.number < n) → ((k : ℕ) → k < n → count_by (has_number k) xs ≡ 1) → length xs ≡ n
as_many n xs within once = sym (count_all n xs within) ∙ count_to n n xs (omega arith) once

among_at : (xs : List NumberedEntry) (k : ℕ) (d e : NumberedEntry) → k < length xs → get_or xs k d ≡ e → IsAmong e xs
among_at [] k d e below is = absurd (omega (arith, below))
among_at (x ∷ xs) zero d e below is = inl (sym is)
among_at (x ∷ xs) (suc k) d e below is = inr (among_at xs k d e (omega (arith, below)) is)

pub contains_among : (xs : List NumberedEntry) (e : NumberedEntry) → Contains xs e → IsAmong e xs
contains_among xs e (k, below, is) = among_at xs k e e below is

module _ (p : Program) (lim : Bounds) (s : Table) (kept : TableKeeps p lim s) (id : ℕ) (v : View) (at : get_elem? s.views id ≡ core.some v) (main : v.kind ≡ Main) (none : v.out ≡ 0) where
  abbrev f : Floor
  f = floor_of p s

  -- each other seat has nothing
  pub turns_of_others : (i : ℕ) (o : core.Option View) → get_elem? s.views i ≡ o → i ≢ id → (t : ℕ) → turns_at o t ≡ None
  turns_of_others i core.none is other t = refl
  turns_of_others i (core.some x) is other t = (others_have_nothing s.views kept.seats id v at main none i x other is).given.turns t

  pub segment_of_others : (i : ℕ) (o : core.Option View) → get_elem? s.views i ≡ o → i ≢ id → segment_at o ≡ None
  segment_of_others i core.none is other = refl
  segment_of_others i (core.some x) is other = (others_have_nothing s.views kept.seats id v at main none i x other is).given.segment

  part_of_others : (i : ℕ) (o : core.Option View) → get_elem? s.views i ≡ o → i ≢ id → part_at o ≡ []
  part_of_others i core.none is other = refl
  part_of_others i (core.some x) is other = (others_have_nothing s.views kept.seats id v at main none i x other is).part

  -- the seat has all entries
  lies : LiesInParts kept.log f.parts
  lies = kept.rule.parts

  part_id : f.parts id ≡ v.part
  part_id = ap part_at at

  pub within : (e : NumberedEntry) → IsAmong e v.part → e.number < length kept.log
  within e among = slice_get_within kept.log e.number e (lies.entries id e (subst (IsAmong e) (sym part_id) among))

  drawn_one : (i n : ℕ) → n < length kept.log → lies.owner n ≡ i → times_drawn kept.log lies.owner i n ≡ 1
  drawn_one i n below is =
      ap (λ (b : Bool). cond {A = ℕ} (b && (lies.owner n == i)) 1 0) (lt-ltb n (length kept.log) below)
      ∙ ap (λ (b : Bool). cond {A = ℕ} (true && b) 1 0) (eq-eqb (lies.owner n) i is)

  pub once : (n : ℕ) → n < length kept.log → count_by (has_number n) v.part ≡ 1
  once n below =
      ⊎_elim
      (λ (own : lies.owner n ≡ id). ap (count_by (has_number n)) (sym part_id) ∙ (lies.once id n ∙ drawn_one id n below own))
      (λ (other : lies.owner n ≢ id).
      let one = lies.once (lies.owner n) n ∙ drawn_one (lies.owner n) n below refl in
      let empty : f.parts (lies.owner n) ≡ [] = part_of_others (lies.owner n) (get_elem? s.views (lies.owner n)) refl other in
      let zero_now : count_by (has_number n) (f.parts (lies.owner n)) ≡ 0 = ap (count_by (has_number n)) empty in
      absurd (omega (arith, one, zero_now)))
      (cases_eq (lies.owner n) id)

  pub size : length v.part ≡ length kept.log
  size = as_many (length kept.log) v.part within once

  pub merged : IsMergeOf (v.part ∷ []) kept.log
  merged = record {
    size = sym size ∙ ap length (sym (append-nil v.part));
    entries = λ e has.
        let among : IsAmong e v.part = contains_among v.part e (subst (λ (l : List NumberedEntry). Contains l e) (append-nil v.part) has) in
        lies.entries id e (subst (IsAmong e) (sym part_id) among);
  }

  pub numbered : AreNumbered (v.part ∷ [])
  numbered =
      let all : all_of (v.part ∷ []) ≡ v.part = append-nil v.part in
      let count = ap length all in
      let long = size in
      record {
        within = λ e has.
            let among : IsAmong e v.part = contains_among v.part e (subst (λ (l : List NumberedEntry). Contains l e) all has) in
            let below = within e among in
            omega (arith, below, count, long);
        once = λ n below. ap (count_by (has_number n)) all ∙ once n (omega (arith, below, count, long));
      }
