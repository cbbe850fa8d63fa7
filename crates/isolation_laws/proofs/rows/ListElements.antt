-- The elements of a list after one of them was set, and after one was added.
use Rattle.std.proofs.Common.{◌≡◌, ◌≢◌, ◌⊎◌, ◌<◌, ℕ, zero, suc, List, [], ◌∷◌, ◌++◌, length, Some, inl, inr, refl, ap, arith}
use Rattle.std.specs.Prelude.{slice_get, slice_set}

-- an element of the new list is the one that was set, or another one, which is as before
pub get_set : {X : Type 0} (xs : List X) (i j : ℕ) (x y : X) → slice_get (slice_set xs i x) j ≡ Some y
    → ((j ≡ i) × (y ≡ x)) ⊎ ((j ≢ i) × (slice_get xs j ≡ Some y))
get_set [] i j x y h = absurd (cc)
get_set (z ∷ xs) zero zero x y h = let same : y ≡ x = cc in inl (refl, same)
get_set (z ∷ xs) zero (suc j) x y h = inr ((λ e. omega (arith, e)), h)
get_set (z ∷ xs) (suc i) zero x y h = inr ((λ e. omega (arith, e)), h)
get_set (z ∷ xs) (suc i) (suc j) x y h = elim (get_set xs i j x y h) [
  | inl here ↦ inl (ap suc here.0, here.1)
  | inr other ↦ inr ((λ e. let below : j ≡ i = omega (arith, e) in other.0 below), other.1)
]

pub get_set_other : {X : Type 0} (xs : List X) (i j : ℕ) (x : X) → j ≢ i → slice_get (slice_set xs i x) j ≡ slice_get xs j
get_set_other [] i j x h = refl
get_set_other (z ∷ xs) zero zero x h = absurd (h refl)
get_set_other (z ∷ xs) zero (suc j) x h = refl
get_set_other (z ∷ xs) (suc i) zero x h = refl
get_set_other (z ∷ xs) (suc i) (suc j) x h = get_set_other xs i j x (λ e. h (ap suc e))

pub get_set_same : {X : Type 0} (xs : List X) (i : ℕ) (x y : X) → slice_get xs i ≡ Some y → slice_get (slice_set xs i x) i ≡ Some x
get_set_same [] i x y h = absurd (cc)
get_set_same (z ∷ xs) zero x y h = refl
get_set_same (z ∷ xs) (suc i) x y h = get_set_same xs i x y h

pub get_set_within : {X : Type 0} (xs : List X) (i : ℕ) (x : X) → i < length xs → slice_get (slice_set xs i x) i ≡ Some x
get_set_within [] i x h = absurd (omega arith)
get_set_within (z ∷ xs) zero x h = refl
get_set_within (z ∷ xs) (suc i) x h = get_set_within xs i x (omega arith)

pub length_set : {X : Type 0} (xs : List X) (i : ℕ) (x : X) → length (slice_set xs i x) ≡ length xs
length_set [] i x = refl
length_set (z ∷ xs) zero x = refl
length_set (z ∷ xs) (suc i) x = ap suc (length_set xs i x)

-- an element of the new list is the one that was added, or was there before
pub get_added : {X : Type 0} (xs : List X) (j : ℕ) (x y : X) → slice_get (xs ++ x ∷ []) j ≡ Some y
    → ((j ≡ length xs) × (y ≡ x)) ⊎ (slice_get xs j ≡ Some y)
get_added [] zero x y h = let same : y ≡ x = cc in inl (refl, same)
get_added [] (suc j) x y h = absurd (cc)
get_added (z ∷ xs) zero x y h = inr h
get_added (z ∷ xs) (suc j) x y h = elim (get_added xs j x y h) [
  | inl here ↦ inl (ap suc here.0, here.1)
  | inr other ↦ inr other
]

pub get_before_added : {X : Type 0} (xs ys : List X) (j : ℕ) (y : X) → slice_get xs j ≡ Some y → slice_get (xs ++ ys) j ≡ Some y
get_before_added [] ys j y h = absurd (cc)
get_before_added (z ∷ xs) ys zero y h = h
get_before_added (z ∷ xs) ys (suc j) y h = get_before_added xs ys j y h

-- there is one element at each place
pub one_there : {X : Type 0} (xs : List X) (i : ℕ) (x y : X) → slice_get xs i ≡ Some x → slice_get xs i ≡ Some y → x ≡ y
one_there xs i x y h k = cc
