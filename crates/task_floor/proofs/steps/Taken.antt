-- A list of which one element more was taken.
use Rattle.std.proofs.Common.{◌≡◌, ◌+◌, ◌++◌, ◌<◌, ℕ, zero, suc, List, [], ◌∷◌, length, take, get_or, refl, sym, ap, ◌∙◌, arith}
use mathlib.Core.Option.{some, some-injective, some-ne-none}
use lib.ListN.{get_elem?}

module _ {A : Type 0} where
  take_next : (l : List A) (i : ℕ) → take (i + 1) l ≡ take (suc i) l
  take_next l i = ap (λ (n : ℕ). take n l) next
    where
      next : i + 1 ≡ suc i
      next = omega arith

  pub take_one : (l : List A) (i : ℕ) (x : A) → get_elem? l i ≡ some x → take (i + 1) l ≡ take i l ++ x ∷ []
  take_one l i x is = take_next l i ∙ by l i is
    where
      by : (xs : List A) (n : ℕ) → get_elem? xs n ≡ some x → take (suc n) xs ≡ take n xs ++ x ∷ []
      by [] n here = absurd (some-ne-none x (sym here))
      by (y ∷ xs) zero here = ap (λ (z : A). z ∷ []) (some-injective y x here)
      by (y ∷ xs) (suc n) here = ap (λ (zs : List A). y ∷ zs) (by xs n here)

  -- the same of an element that a loop has come to
  pub take_item : (l : List A) (i : ℕ) (x : A) → i < length l → x ≡ get_or l i x → take (i + 1) l ≡ take i l ++ x ∷ []
  take_item l i x below is = take_next l i ∙ by l i below is
    where
      by : (xs : List A) (n : ℕ) → n < length xs → x ≡ get_or xs n x → take (suc n) xs ≡ take n xs ++ x ∷ []
      by [] n low here = absurd (omega (arith, low))
      by (y ∷ xs) zero low here = ap (λ (z : A). z ∷ []) (sym here)
      by (y ∷ xs) (suc n) low here = ap (λ (zs : List A). y ∷ zs) (by xs n (omega (arith, low)) here)

  pub take_or : (l : List A) (i : ℕ) (d : A) → i < length l → take (i + 1) l ≡ take i l ++ get_or l i d ∷ []
  take_or l i d below = take_next l i ∙ by l i below
    where
      by : (xs : List A) (n : ℕ) → n < length xs → take (suc n) xs ≡ take n xs ++ get_or xs n d ∷ []
      by [] n low = absurd (omega (arith, low))
      by (y ∷ xs) zero low = refl
      by (y ∷ xs) (suc n) low = ap (λ (zs : List A). y ∷ zs) (by xs n (omega (arith, low)))
