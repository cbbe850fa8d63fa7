-- A change at one place of a list into which one item was inserted.
use Rattle.std.proofs.Common.{◌≡◌, ℕ, zero, suc, ◌<◌, ◌≤◌, List, [], ◌∷◌, length, set, refl, ap, arith}
use Rattle.std.specs.List.{insert}

module _ {A : Type 0} where
  pub set-insert_here : (xs : List A) (n : ℕ) (x y : A) → n ≤ length xs → set (insert xs n x) n y ≡ insert xs n y
  set-insert_here xs zero x y h = refl
  set-insert_here [] (suc n) x y h = absurd (omega arith)
  set-insert_here (z ∷ xs) (suc n) x y h = ap (λ l. z ∷ l) (set-insert_here xs n x y (omega arith))

  pub set-insert_before : (xs : List A) (n k : ℕ) (x y : A) → k < n → n ≤ length xs → set (insert xs n x) k y ≡ insert (set xs k y) n x
  set-insert_before xs zero k x y less h = absurd (omega arith)
  set-insert_before [] (suc n) k x y less h = absurd (omega arith)
  set-insert_before (z ∷ xs) (suc n) zero x y less h = refl
  set-insert_before (z ∷ xs) (suc n) (suc k) x y less h = ap (λ l. z ∷ l) (set-insert_before xs n k x y (omega arith) (omega arith))

  pub set-insert_after : (xs : List A) (n k : ℕ) (x y : A) → n ≤ k → set (insert xs n x) (suc k) y ≡ insert (set xs k y) n x
  set-insert_after [] zero k x y h = refl
  set-insert_after (z ∷ xs) zero k x y h = refl
  set-insert_after xs (suc n) zero x y h = absurd (omega arith)
  set-insert_after [] (suc n) (suc k) x y h = refl
  set-insert_after (z ∷ xs) (suc n) (suc k) x y h = ap (λ l. z ∷ l) (set-insert_after xs n k x y (omega arith))
