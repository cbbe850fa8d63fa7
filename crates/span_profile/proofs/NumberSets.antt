-- Sets of numbers: a number more, and none.
use Rattle.std.proofs.Common.{◌≡◌, ◌<◌, ◌≤◌, ◌+◌, ◌⊎◌, inl, inr, ℕ, zero, suc, Bool, true, false, not, List, [], ◌∷◌, ◌++◌, length, replicate, Some, refl, sym, ap, ◌∙◌, subst, arith, length-append, length-set, set}
use Rattle.std.specs.Prelude.{◌==◌, ◌&&◌, ◌||◌, ◌↔◌, if◌then◌else◌, slice_get, slice_set}
use Rattle.std.specs.List.{Contains, count_by}
use Rattle.std.proofs.lemmas.Bool.{cases_eq, eq-eqb, ne_eqb, eqb-true, or_cases, or_left, or_right}
use Rattle.std.proofs.lemmas.List.Folds.{list_any-append}
use Rattle.std.proofs.lemmas.List.Sums.{count_by-le-length, sum_by-cons}
use Rattle.span_profile.specs.inner.Sets.{IsCellSet, NumberSet, has_found, is_in, with_cell}
use Rattle.span_profile.proofs.Lists.{contains_cases, contains_first, contains_later, contains_none}

get_set_same : {X : Type 0} (xs : List X) (i : ℕ) (x : X) → i < length xs → slice_get (slice_set xs i x) i ≡ Some x
get_set_same [] i x below = absurd (omega (arith, below))
get_set_same (y ∷ ys) zero x below = refl
get_set_same (y ∷ ys) (suc i) x below = get_set_same ys i x (omega (arith, below))

get_set_other : {X : Type 0} (xs : List X) (i n : ℕ) (x : X) → ¬ (n ≡ i) → slice_get (slice_set xs i x) n ≡ slice_get xs n
get_set_other [] i n x differ = refl
get_set_other (y ∷ ys) zero zero x differ = absurd (differ refl)
get_set_other (y ∷ ys) zero (suc n) x differ = refl
get_set_other (y ∷ ys) (suc i) zero x differ = refl
get_set_other (y ∷ ys) (suc i) (suc n) x differ = get_set_other ys i n x (λ same. differ (ap (λ (m : ℕ). suc m) same))

-- a number that is not in counts
counted_out : (b : Bool) (has : List Bool) → count_by not (b ∷ has) ≡ (if b then 0 else 1) + count_by not has
counted_out true has = sum_by-cons (λ (x : Bool). if not x then 1 else 0) true has
counted_out false has = sum_by-cons (λ (x : Bool). if not x then 1 else 0) false has

-- one number more is in
fewer : (has : List Bool) (at : ℕ) → slice_get has at ≡ Some false → count_by not (slice_set has at true) + 1 ≡ count_by not has
fewer [] at found = absurd (cc)
fewer (true ∷ has) zero found = absurd (cc)
fewer (false ∷ has) zero found = let out = counted_out false has in let now = counted_out true has in omega (arith, out, now)
fewer (b ∷ has) (suc at) found = let rest = fewer has at found in let before = counted_out b has in let now = counted_out b (slice_set has at true) in omega (arith, rest, before, now)

or_false : (b : Bool) → (b || false) ≡ b
or_false true = refl
or_false false = refl

-- a further number is in, and the others as before
in_added : (items : List ℕ) (at n : ℕ) → is_in (items ++ at ∷ []) n ≡ (is_in items n || (at == n))
in_added items at n = list_any-append (λ (item : ℕ). item == n) items (at ∷ []) ∙ ap (λ (b : Bool). is_in items n || b) (or_false (at == n))

pub added_set : (has : List Bool) (cells : List ℕ) (capacity at : ℕ) → IsCellSet has cells capacity → slice_get has at ≡ Some false → at < length has
    → IsCellSet (slice_set has at true) (cells ++ at ∷ []) capacity
added_set has cells capacity at is none below = record {
  listed = λ n. elim (cases_eq n at) [ inl same ↦ here n same | inr differ ↦ other n differ ];
  room = let less = fewer has at none in omega (arith, is.room, less, length-append cells (at ∷ []));
  full = omega (arith, is.full, length-set has at true);
} where
  here : (n : ℕ) → n ≡ at → has_found (slice_get (slice_set has at true) n) ≡ is_in (cells ++ at ∷ []) n
  here n same =
      ap (λ (m : ℕ). has_found (slice_get (slice_set has at true) m)) same
      ∙ (ap has_found (get_set_same has at true below)
      ∙ sym (in_added cells at n ∙ or_right (is_in cells n) (at == n) (eq-eqb at n (sym same))))

  other : (n : ℕ) → ¬ (n ≡ at) → has_found (slice_get (slice_set has at true) n) ≡ is_in (cells ++ at ∷ []) n
  other n differ =
      ap has_found (get_set_other has at n true differ)
      ∙ (is.listed n
      ∙ sym (in_added cells at n ∙ (ap (λ (b : Bool). is_in cells n || b) (ne_eqb at n (λ same. differ (sym same))) ∙ or_false (is_in cells n))))

-- a new table has no number
none_found : (size n : ℕ) → has_found (slice_get (replicate size false) n) ≡ false
none_found zero n = refl
none_found (suc size) zero = refl
none_found (suc size) (suc n) = none_found size n

pub all_missing : (size : ℕ) → count_by not (replicate size false) ≡ size
all_missing zero = refl
all_missing (suc size) = let rest = all_missing size in let out = counted_out false (replicate size false) in omega (arith, rest, out)

pub new_set : (size capacity : ℕ) → size ≤ capacity → IsCellSet (replicate size false) [] capacity
new_set size capacity fits = record { listed = none_found size; room = omega (arith, all_missing size, fits); full = let n = length_replicate size in omega (arith, n, fits) }
  where
    length_replicate : (size : ℕ) → length (replicate size false) ≡ size
    length_replicate zero = refl
    length_replicate (suc size) = ap (λ (n : ℕ). suc n) (length_replicate size)

-- the elements of a set after a number was added
pub in_contains : (items : List ℕ) (n : ℕ) → is_in items n ≡ true → Contains items n
in_contains [] n e = absurd (cc)
in_contains (item ∷ items) n e = elim (or_cases (item == n) (is_in items n) e) [
  | inl same ↦ subst (Contains (item ∷ items)) (eqb-true item n same) (contains_first item items)
  | inr later ↦ contains_later item n items (in_contains items n later)
]

pub contains_in : (items : List ℕ) (n : ℕ) → Contains items n → is_in items n ≡ true
contains_in [] n has = absurd (contains_none n has)
contains_in (item ∷ items) n has = elim (contains_cases item n items has) [
  | inl same ↦ or_left (item == n) (is_in items n) (eq-eqb item n same)
  | inr later ↦ or_right (item == n) (is_in items n) (contains_in items n later)
]

append_left : (xs ys : List ℕ) (n : ℕ) → Contains xs n → Contains (xs ++ ys) n
append_left [] ys n has = absurd (contains_none n has)
append_left (x ∷ xs) ys n has = elim (contains_cases x n xs has) [
  | inl same ↦ subst (Contains (x ∷ xs ++ ys)) same (contains_first x (xs ++ ys))
  | inr later ↦ contains_later x n (xs ++ ys) (append_left xs ys n later)
]

append_last : (xs : List ℕ) (n : ℕ) → Contains (xs ++ n ∷ []) n
append_last [] n = contains_first n []
append_last (x ∷ xs) n = contains_later x n (xs ++ n ∷ []) (append_last xs n)

append_cases : (xs : List ℕ) (at n : ℕ) → Contains (xs ++ at ∷ []) n → Contains xs n ⊎ (at ≡ n)
append_cases [] at n has = elim (contains_cases at n [] has) [ inl same ↦ inr same | inr later ↦ absurd (contains_none n later) ]
append_cases (x ∷ xs) at n has = elim (contains_cases x n (xs ++ at ∷ []) has) [
  | inl same ↦ inl (subst (Contains (x ∷ xs)) same (contains_first x xs))
  | inr later ↦ elim (append_cases xs at n later) [ inl old ↦ inl (contains_later x n xs old) | inr same ↦ inr same ]
]

by_test : (at : ℕ) (set : NumberSet) (t : Bool) → is_in set.items at ≡ t → (n : ℕ)
    → Contains (if t then set else record set { items = set.items ++ at ∷ [] }).items n ↔ (Contains set.items n ⊎ (at ≡ n))
by_test at set true e n = (λ has. inl has, λ either. elim either [ inl has ↦ has | inr same ↦ subst (Contains set.items) same (in_contains set.items at e) ])
by_test at set false e n = (
  λ has. append_cases set.items at n has,
  λ either. elim either [ inl has ↦ append_left set.items (at ∷ []) n has | inr same ↦ subst (Contains (set.items ++ at ∷ [])) same (append_last set.items at) ],
)

pub with_contains : (at : ℕ) (set : NumberSet) (n : ℕ) → Contains (with_cell at set).items n ↔ (Contains set.items n ⊎ (at ≡ n))
with_contains at set n = by_test at set (is_in set.items at) refl n

size_by : (at : ℕ) (set : NumberSet) (t : Bool) → (if t then set else record set { items = set.items ++ at ∷ [] }).size ≡ set.size
size_by at set true = refl
size_by at set false = refl

pub with_size : (at : ℕ) (set : NumberSet) → (with_cell at set).size ≡ set.size
with_size at set = size_by at set (is_in set.items at)

-- the set after a number was added, and after one that was there
inserted_by : (set : NumberSet) (n : ℕ) (t : Bool) → is_in set.items n ≡ t → t ≡ false → (size : ℕ) (items : List ℕ) → size ≡ set.size → items ≡ set.items ++ n ∷ []
    → record { size = size; items = items } ≡ (if t then set else record set { items = set.items ++ n ∷ [] })
inserted_by set n true e none size items same added = absurd (cc)
inserted_by set n false e none size items same added = λ i. record { size = same i; items = added i }

pub inserted : (set : NumberSet) (n : ℕ) → is_in set.items n ≡ false → (size : ℕ) (items : List ℕ) → size ≡ set.size → items ≡ set.items ++ n ∷ [] → record { size = size; items = items } ≡ with_cell n set
inserted set n none size items same added = inserted_by set n (is_in set.items n) refl none size items same added

there_by : (set : NumberSet) (n : ℕ) (t : Bool) → t ≡ true → set ≡ (if t then set else record set { items = set.items ++ n ∷ [] })
there_by set n true e = refl
there_by set n false e = absurd (cc)

pub there_already : (set : NumberSet) (n : ℕ) → is_in set.items n ≡ true → set ≡ with_cell n set
there_already set n e = there_by set n (is_in set.items n) e

pub same_set : (has new_has : List Bool) (cells new_cells : List ℕ) (capacity new_capacity : ℕ) → new_has ≡ has → new_cells ≡ cells → new_capacity ≡ capacity → IsCellSet has cells capacity
    → IsCellSet new_has new_cells new_capacity
same_set has new_has cells new_cells capacity new_capacity a b c is =
    subst (λ (h : List Bool). IsCellSet h new_cells new_capacity) (sym a)
    (subst (λ (l : List ℕ). IsCellSet has l new_capacity) (sym b) (subst (IsCellSet has cells) (sym c) is))

-- a number that is in is below the size
pub in_below : (has : List Bool) (n : ℕ) → has_found (slice_get has n) ≡ true → n < length has
in_below [] n e = absurd (cc)
in_below (b ∷ has) zero e = omega arith
in_below (b ∷ has) (suc n) e = let below = in_below has n e in omega (arith, below)

-- one number more is taken out
and_not : (a b : Bool) → (a && not (b || true)) ≡ false
and_not true true = refl
and_not true false = refl
and_not false true = refl
and_not false false = refl

pub one_out : (old has : List Bool) (cells : List ℕ) (cell : ℕ) → cell < length has → ((n : ℕ) → has_found (slice_get has n) ≡ (has_found (slice_get old n) && not (is_in cells n)))
    → (n : ℕ) → has_found (slice_get (slice_set has cell false) n) ≡ (has_found (slice_get old n) && not (is_in (cells ++ cell ∷ []) n))
one_out old has cells cell below so_far n = elim (cases_eq n cell) [ inl same ↦ here same | inr differ ↦ other differ ]
  where
    here : n ≡ cell → has_found (slice_get (slice_set has cell false) n) ≡ (has_found (slice_get old n) && not (is_in (cells ++ cell ∷ []) n))
    here same =
        ap (λ (m : ℕ). has_found (slice_get (slice_set has cell false) m)) same
        ∙ (ap has_found (get_set_same has cell false below)
        ∙ sym (ap (λ (t : Bool). has_found (slice_get old n) && not t) (in_added cells cell n ∙ ap (λ (t : Bool). is_in cells n || t) (eq-eqb cell n (sym same))) ∙ and_not (has_found (slice_get old n)) (is_in cells n)))

    other : ¬ (n ≡ cell) → has_found (slice_get (slice_set has cell false) n) ≡ (has_found (slice_get old n) && not (is_in (cells ++ cell ∷ []) n))
    other differ =
        ap has_found (get_set_other has cell n false differ)
        ∙ (so_far n
        ∙ sym (ap (λ (t : Bool). has_found (slice_get old n) && not t) (in_added cells cell n ∙ (ap (λ (t : Bool). is_in cells n || t) (ne_eqb cell n (λ same. differ (sym same))) ∙ or_false (is_in cells n)))))

none_out : (a : Bool) → (a && not false) ≡ a
none_out true = refl
none_out false = refl

pub nothing_out : (has : List Bool) (n : ℕ) → has_found (slice_get has n) ≡ (has_found (slice_get has n) && not (is_in [] n))
nothing_out has n = sym (none_out (has_found (slice_get has n)))

-- once all are out, none is in
all_out_by : (a b : Bool) → a ≡ b → (a && not b) ≡ false
all_out_by true true e = refl
all_out_by true false e = absurd (cc)
all_out_by false b e = refl

pub cleared : (has old : List Bool) (cells : List ℕ) (capacity : ℕ) → IsCellSet old cells capacity → length has ≡ length old
    → ((n : ℕ) → has_found (slice_get has n) ≡ (has_found (slice_get old n) && not (is_in cells n))) → IsCellSet has [] capacity
cleared has old cells capacity is size gone = record {
  listed = λ n. gone n ∙ all_out_by (has_found (slice_get old n)) (is_in cells n) (is.listed n);
  room = let most = count_by-le-length not has in omega (arith, most, size, is.full);
  full = omega (arith, size, is.full);
}
