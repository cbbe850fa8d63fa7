-- The fact of one of 128 futures after an operation on the words of all of them.
use Rattle.std.proofs.Common.{◌≡◌, ◌<◌, ◌≤◌, ℕ, zero, suc, ◌+◌, ◌-◌, ◌^◌, min, max, Bool, true, false, not, ◌&&◌, ◌||◌, if◌then◌else◌, refl, sym, ap, ◌∙◌, inl, inr, subst, arith}
use Rattle.std.specs.Int.{w128}
use Rattle.std.specs.Prelude.{◌==◌, nat_le, nat_lt, bit_and, bit_or}
use Rattle.std.specs.Int.{bit_at, bit_not}
use Rattle.std.proofs.lemmas.Bool.{cases_eq, eq-eqb, ne_eqb, leb-true, ltb-true, le-leb, lt-ltb, both_ways, and_parts, and_from}
use Rattle.std.proofs.lemmas.Nat.{pow_below, pow_pos}
use Rattle.std.proofs.lemmas.Nat.Bits.{bit_at_and, bit_at_or, bit_at_not, bit_at-lt, bit_at-zero, bit_at_ones, bit_at-pow_same, bit_at-pow_other}
use Rattle.cover_flow.specs.declared.facts.Fact.{Fact}
use Rattle.cover_flow.specs.declared.facts.Facts.{Facts}
use Rattle.cover_flow.specs.Flow.{is_set, fact_of, is_among}
use Rattle.cover_flow.specs.inner.After.{nowhere, at_start, joined, put_out, taken_in}
use Rattle.cover_flow.specs.inner.Words.{none_come, start_words, joined_words, put_out_words, taken_in_words, mask_of}

-- tests of a bit, which is 0 or 1
or_bit : (x y : ℕ) → x < 2 → y < 2 → (max x y == 1) ≡ ((x == 1) || (y == 1))
or_bit zero zero h k = refl
or_bit zero (suc zero) h k = refl
or_bit (suc zero) zero h k = refl
or_bit (suc zero) (suc zero) h k = refl
or_bit (suc (suc x)) y h k = absurd (omega arith)
or_bit zero (suc (suc y)) h k = absurd (omega arith)
or_bit (suc zero) (suc (suc y)) h k = absurd (omega arith)

and_bit : (x y : ℕ) → x < 2 → y < 2 → (min x y == 1) ≡ ((x == 1) && (y == 1))
and_bit zero zero h k = refl
and_bit zero (suc zero) h k = refl
and_bit (suc zero) zero h k = refl
and_bit (suc zero) (suc zero) h k = refl
and_bit (suc (suc x)) y h k = absurd (omega arith)
and_bit zero (suc (suc y)) h k = absurd (omega arith)
and_bit (suc zero) (suc (suc y)) h k = absurd (omega arith)

not_bit : (x : ℕ) → x < 2 → (1 - x == 1) ≡ not (x == 1)
not_bit zero h = refl
not_bit (suc zero) h = refl
not_bit (suc (suc x)) h = absurd (omega arith)

pub set-or : (a b k : ℕ) → is_set (bit_or a b) k ≡ (is_set a k || is_set b k)
set-or a b k = ap (λ x. x == 1) (bit_at_or a b k) ∙ or_bit (bit_at a k) (bit_at b k) (bit_at-lt a k) (bit_at-lt b k)

pub set-and : (a b k : ℕ) → is_set (bit_and a b) k ≡ (is_set a k && is_set b k)
set-and a b k = ap (λ x. x == 1) (bit_at_and a b k) ∙ and_bit (bit_at a k) (bit_at b k) (bit_at-lt a k) (bit_at-lt b k)

set-not : (a k : ℕ) → a < 2 ^ 128 → k < 128 → is_set (bit_not w128 a) k ≡ not (is_set a k)
set-not a k fits within = ap (λ x. x == 1) (bit_at_not w128 a k fits within) ∙ not_bit (bit_at a k) (bit_at-lt a k)

pub set-zero : (k : ℕ) → is_set 0 k ≡ false
set-zero k = ap (λ x. x == 1) (bit_at-zero k)

pub set-ones : (k : ℕ) → k < 128 → is_set 340282366920938463463374607431768211455 k ≡ true
set-ones k within = ap (λ x. x == 1) (bit_at_ones 128 k within)

-- the future is that with the number
among_parts : (first f : ℕ) → is_among first f ≡ true → (first ≤ f) × (f - first < 128)
among_parts first f e =
    let parts = and_parts (nat_le first f) (nat_lt (f - first) 128) e in
    (leb-true first f parts.0, ltb-true (f - first) 128 parts.1)

among_from : (first k : ℕ) → k < 128 → is_among first (first + k) ≡ true
among_from first k within =
    let here : first ≤ first + k = omega arith in
    let below : first + k - first < 128 = omega arith in
    and_from (nat_le first (first + k)) (nat_lt (first + k - first) 128) (le-leb first (first + k) here) (lt-ltb (first + k - first) 128 below)

-- a future that is one of the 128, by its number among them
pub among_number : (first f : ℕ) → is_among first f ≡ true → (f - first < 128) × (first + (f - first) ≡ f)
among_number first f e = let parts = among_parts first f e in let le = parts.0 in (parts.1, omega arith)

mask_by : (first f k : ℕ) → k < 128 → (b : Bool) → is_among first f ≡ b → is_set (if b then 2 ^ (f - first) else 0) k ≡ (f == first + k)
mask_by first f k within true e =
    let parts = among_parts first f e in
    let le = parts.0 in
    elim (cases_eq k (f - first)) [
      | inl same ↦
          let whole : f ≡ first + k = omega arith in
          ap (λ q. is_set (2 ^ (f - first)) q) same ∙ ap (λ x. x == 1) (bit_at-pow_same (f - first)) ∙ sym (eq-eqb f (first + k) whole)
      | inr differs ↦
          ap (λ x. x == 1) (bit_at-pow_other (f - first) k differs) ∙ sym (ne_eqb f (first + k) (λ whole. differs (omega arith)))
    ]
mask_by first f k within false e =
    set-zero k ∙ sym (ne_eqb f (first + k) (λ whole. both_ways (is_among first (first + k)) (subst (λ q. is_among first q ≡ false) whole e) (among_from first k within)))

pub set-mask : (first f k : ℕ) → k < 128 → is_set (mask_of first f) k ≡ (f == first + k)
set-mask first f k within = mask_by first f k within (is_among first f) refl

mask_fits_by : (first f : ℕ) → (b : Bool) → is_among first f ≡ b → (if b then 2 ^ (f - first) else 0) < 2 ^ 128
mask_fits_by first f true e = pow_below (f - first) 128 (among_parts first f e).1
mask_fits_by first f false e = pow_pos 128

mask_fits : (first f : ℕ) → mask_of first f < 2 ^ 128
mask_fits first f = mask_fits_by first f (is_among first f) refl

-- a fact of two equal halves
abbrev pub fact : Bool → Bool → Fact
fact o n = record { out = o; not_out = n }

pub halves : (o p n m : Bool) → o ≡ p → n ≡ m → fact o n ≡ fact p m
halves o p n m e h = ap (λ x. fact x n) e ∙ ap (fact p) h

or_assoc : (a b c : Bool) → ((a || b) || c) ≡ (a || (b || c))
or_assoc true b c = refl
or_assoc false b c = refl

pub joined-assoc : (x y z : Fact) → joined (joined x y) z ≡ joined x (joined y z)
joined-assoc x y z =
    halves ((x.out || y.out) || z.out) (x.out || (y.out || z.out)) ((x.not_out || y.not_out) || z.not_out) (x.not_out || (y.not_out || z.not_out))
    (or_assoc x.out y.out z.out) (or_assoc x.not_out y.not_out z.not_out)

pub fact-none : (k : ℕ) → fact_of none_come k ≡ nowhere
fact-none k = halves (is_set 0 k) false (is_set 0 k) false (set-zero k) (set-zero k)

pub fact-start : (k : ℕ) → k < 128 → fact_of start_words k ≡ at_start
fact-start k within =
    halves (is_set 0 k) false (is_set 340282366920938463463374607431768211455 k) true (set-zero k) (set-ones k within)

pub fact-joined : (a b : Facts) (k : ℕ) → fact_of (joined_words a b) k ≡ joined (fact_of a k) (fact_of b k)
fact-joined a b k =
    halves (is_set (bit_or a.out b.out) k) (is_set a.out k || is_set b.out k) (is_set (bit_or a.not_out b.not_out) k)
    (is_set a.not_out k || is_set b.not_out k) (set-or a.out b.out k) (set-or a.not_out b.not_out k)

put_bits : (o n m : Bool) → fact (o || (n && m)) (n && not m) ≡ (if m then put_out (fact o n) else fact o n)
put_bits true true true = refl
put_bits true true false = refl
put_bits true false true = refl
put_bits true false false = refl
put_bits false true true = refl
put_bits false true false = refl
put_bits false false true = refl
put_bits false false false = refl

take_bits : (o n m : Bool) → fact (o && not m) (n || (o && m)) ≡ (if m then taken_in (fact o n) else fact o n)
take_bits true true true = refl
take_bits true true false = refl
take_bits true false true = refl
take_bits true false false = refl
take_bits false true true = refl
take_bits false true false = refl
take_bits false false true = refl
take_bits false false false = refl

-- a word to which the other adds its bits under the mask, and one that loses them
with_bits : (a b mask k : ℕ) → is_set (bit_or a (bit_and b mask)) k ≡ (is_set a k || (is_set b k && is_set mask k))
with_bits a b mask k = set-or a (bit_and b mask) k ∙ ap (λ x. is_set a k || x) (set-and b mask k)

without_bits : (a mask k : ℕ) → mask < 2 ^ 128 → k < 128 → is_set (bit_and a (bit_not w128 mask)) k ≡ (is_set a k && not (is_set mask k))
without_bits a mask k fits within = set-and a (bit_not w128 mask) k ∙ ap (λ x. is_set a k && x) (set-not mask k fits within)

module _ (first f k : ℕ) (within : k < 128) (a : Facts) where
  pub fact-put_out : fact_of (put_out_words (mask_of first f) a) k ≡ (if f == first + k then put_out (fact_of a k) else fact_of a k)
  fact-put_out =
      let mask = mask_of first f in
      halves (is_set (bit_or a.out (bit_and a.not_out mask)) k) (is_set a.out k || (is_set a.not_out k && is_set mask k))
      (is_set (bit_and a.not_out (bit_not w128 mask)) k) (is_set a.not_out k && not (is_set mask k))
      (with_bits a.out a.not_out mask k) (without_bits a.not_out mask k (mask_fits first f) within)
      ∙ put_bits (is_set a.out k) (is_set a.not_out k) (is_set mask k)
      ∙ ap (λ b. if b then put_out (fact_of a k) else fact_of a k) (set-mask first f k within)

  pub fact-taken_in : fact_of (taken_in_words (mask_of first f) a) k ≡ (if f == first + k then taken_in (fact_of a k) else fact_of a k)
  fact-taken_in =
      let mask = mask_of first f in
      halves (is_set (bit_and a.out (bit_not w128 mask)) k) (is_set a.out k && not (is_set mask k))
      (is_set (bit_or a.not_out (bit_and a.out mask)) k) (is_set a.not_out k || (is_set a.out k && is_set mask k))
      (without_bits a.out mask k (mask_fits first f) within) (with_bits a.not_out a.out mask k)
      ∙ take_bits (is_set a.out k) (is_set a.not_out k) (is_set mask k)
      ∙ ap (λ b. if b then taken_in (fact_of a k) else fact_of a k) (set-mask first f k within)
