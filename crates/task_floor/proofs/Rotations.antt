-- The latest slots go behind the others, one after another.
use Rattle.std.proofs.Common.{◌≡◌, ◌+◌, ℕ, zero, suc, List, [], ◌∷◌, ◌++◌, length, refl, sym, ap, ◌∙◌, append-nil, append_assoc, arith}
use Rattle.atomic_table.specs.Table.{turned}

module _ {S : Type 0} where
  abbrev pub turns : ℕ → List (ℕ × S) → List (ℕ × S)
  turns zero l = l
  turns (suc n) l = turned (turns n l)

  pub turns_next : (n : ℕ) (l : List (ℕ × S)) → turns (n + 1) l ≡ turned (turns n l)
  turns_next n l = ap (λ (k : ℕ). turns k l) next
    where
      next : n + 1 ≡ suc n
      next = omega arith

  first_then : (n : ℕ) (l : List (ℕ × S)) → turned (turns n l) ≡ turns n (turned l)
  first_then zero l = refl
  first_then (suc n) l = ap turned (first_then n l)

  pub all_turned : (front back : List (ℕ × S)) → turns (length front) (front ++ back) ≡ back ++ front
  all_turned [] back = sym (append-nil back)
  all_turned (x ∷ front) back =
      first_then (length front) (x ∷ (front ++ back))
      ∙ (ap (turns (length front)) (append_assoc front back (x ∷ [])) ∙ (all_turned front (back ++ x ∷ []) ∙ append_assoc back (x ∷ []) front))
