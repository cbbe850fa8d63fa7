-- Elements of a list of which one was set.
use Rattle.std.proofs.Common.{◌≡◌, ◌≢◌, ◌<◌, ℕ, zero, suc, List, [], ◌∷◌, length, refl, sym, ap, arith}
use Rattle.std.specs.Prelude.{slice_index, slice_set}
use mathlib.Core.Option.{some, some-injective, some-ne-none}
use lib.ListN.{get_elem?}

module _ {A : Type 0} where
  pub at_here : (l : List A) (i : ℕ) (a b : A) → get_elem? l i ≡ some a → get_elem? (slice_set l i b) i ≡ some b
  at_here [] i a b e = absurd (some-ne-none a (sym e))
  at_here (x ∷ l) zero a b e = refl
  at_here (x ∷ l) (suc i) a b e = at_here l i a b e

  pub at_within : (l : List A) (i : ℕ) (b : A) → i < length l → get_elem? (slice_set l i b) i ≡ some b
  at_within [] i b below = absurd (omega (arith, below))
  at_within (x ∷ l) zero b below = refl
  at_within (x ∷ l) (suc i) b below = at_within l i b (omega (arith, below))

  pub at_else : (l : List A) (i j : ℕ) (b : A) → j ≢ i → get_elem? (slice_set l i b) j ≡ get_elem? l j
  at_else [] i j b other = refl
  at_else (x ∷ l) zero zero b other = absurd (other refl)
  at_else (x ∷ l) zero (suc j) b other = refl
  at_else (x ∷ l) (suc i) zero b other = refl
  at_else (x ∷ l) (suc i) (suc j) b other = at_else l i j b (λ same. other (ap suc same))

  -- setting what is there changes nothing
  pub set_same : (l : List A) (i : ℕ) (a : A) → get_elem? l i ≡ some a → slice_set l i a ≡ l
  set_same [] i a e = refl
  set_same (x ∷ l) zero a e = let first : a ≡ x = sym (some-injective x a e) in λ k. first k ∷ l
  set_same (x ∷ l) (suc i) a e = λ k. x ∷ set_same l i a e k

  pub within_by : (l : List A) (i : ℕ) (a : A) → get_elem? l i ≡ some a → i < length l
  within_by [] i a e = absurd (some-ne-none a (sym e))
  within_by (x ∷ l) zero a e = omega arith
  within_by (x ∷ l) (suc i) a e = let below = within_by l i a e in omega (arith, below)

-- the word at a place of the list
pub word_at : (l : List ℕ) (i : ℕ) → i < length l → get_elem? l i ≡ some (slice_index l i)
word_at [] i below = absurd (omega (arith, below))
word_at (x ∷ l) zero below = refl
word_at (x ∷ l) (suc i) below = word_at l i (omega (arith, below))
