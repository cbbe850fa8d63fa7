-- What stands at a place of a list after a change at one place.
use Rattle.std.proofs.Common.{◌≡◌, ◌≢◌, ℕ, zero, suc, ◌+◌, ◌⊎◌, List, [], ◌∷◌, ◌++◌, length, set, Some, refl, sym, ap, inl, inr, ⊎_elim, arith}
use mathlib.Core.Option.{some, some-ne-none, some-injective}
use lib.ListN.{get_elem?}
use Rattle.std.specs.List.{slice_get, sum_by}
use Rattle.std.proofs.lemmas.Option.{none-some, same_Some, slice_get_within, get_or_from_slice_get}
use Rattle.std.proofs.lemmas.List.Sums.{sum_by-set}

module _ {A : Type 0} where
  -- the base's look-up finds what std's does
  pub found : (l : List A) (i : ℕ) (x : A) → get_elem? l i ≡ some x → slice_get l i ≡ Some x
  found [] i x e = absurd (some-ne-none x (sym e))
  found (y ∷ l) zero x e = ap Some (some-injective y x e)
  found (y ∷ l) (suc i) x e = found l i x e

  -- after a change at one place, what is found is the new value there, or stood there before
  pub set_cases : (l : List A) (i j : ℕ) (w x : A) → slice_get (set l i w) j ≡ Some x → ((j ≡ i) × (w ≡ x)) ⊎ ((j ≢ i) × (slice_get l j ≡ Some x))
  set_cases [] i j w x e = absurd (none-some x e)
  set_cases (y ∷ l) zero zero w x e = inl (refl, same_Some w x e)
  set_cases (y ∷ l) zero (suc j) w x e = inr ((λ h. omega arith), e)
  set_cases (y ∷ l) (suc i) zero w x e = inr ((λ h. omega arith), e)
  set_cases (y ∷ l) (suc i) (suc j) w x e =
      ⊎_elim (λ t. inl (ap suc t.0, t.1)) (λ t. let apart = t.0 in inr ((λ h. apart (omega arith)), t.1)) (set_cases l i j w x e)

  pub set_here : (l : List A) (i : ℕ) (v w : A) → slice_get l i ≡ Some v → slice_get (set l i w) i ≡ Some w
  set_here [] i v w e = absurd (none-some v e)
  set_here (y ∷ l) zero v w e = refl
  set_here (y ∷ l) (suc i) v w e = set_here l i v w e

  -- in a list that is longer by one, what is found stood there before, or is the last
  pub longer_cases : (l : List A) (last x : A) (i : ℕ) → slice_get (l ++ last ∷ []) i ≡ Some x → (slice_get l i ≡ Some x) ⊎ ((i ≡ length l) × (last ≡ x))
  longer_cases [] last x zero e = inr (refl, same_Some last x e)
  longer_cases [] last x (suc i) e = absurd (none-some x e)
  longer_cases (y ∷ l) last x zero e = inl e
  longer_cases (y ∷ l) last x (suc i) e = ⊎_elim (λ t. inl t) (λ t. inr (ap suc t.0, t.1)) (longer_cases l last x i e)

  pub longer_first : (l : List A) (last x : A) → slice_get l 0 ≡ Some x → slice_get (l ++ last ∷ []) 0 ≡ Some x
  longer_first [] last x e = absurd (none-some x e)
  longer_first (y ∷ l) last x e = e

  -- a sum after a change at one place
  pub sum_set : (f : A → ℕ) (l : List A) (i : ℕ) (v w : A) → slice_get l i ≡ Some v → sum_by f (set l i w) + f v ≡ sum_by f l + f w
  sum_set f l i v w e =
      let s = sum_by-set f l i w v (slice_get_within l i v e) in
      let here = ap f (get_or_from_slice_get l i v v e) in
      omega arith
