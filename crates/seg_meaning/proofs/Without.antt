-- The children without one of them.
use Rattle.std.proofs.Common.{◌≡◌, ℕ, zero, suc, ◌<◌, ◌≤◌, ◌+◌, not, Bool, true, false, cond, ◌==◌, List, [], ◌∷◌, get_or, length, None, Some, refl, ap, ◌∙◌, arith}
use Rattle.std.specs.Prelude.{nat_lt}
use Rattle.std.specs.List.{position, position_or_len, remove}
use Rattle.std.proofs.lemmas.Bool.{ltb-false}
use Rattle.std.proofs.lemmas.List.Quantifiers.{position-Some}
use Rattle.seg_meaning.specs.Giving.{without}

without_at : (child : ℕ) (l : List ℕ) (i : ℕ) → i < length l → (get_or l i 0 == child) ≡ true → ((k : ℕ) → k < i → (get_or l k 0 == child) ≡ false) → without child l ≡ remove l i
without_at child [] i within here before = absurd (omega (arith, within))
without_at child (first ∷ others) zero within here before = ap (λ (b : Bool). cond b others (first ∷ without child others)) here
without_at child (first ∷ others) (suc i) within here before =
    ap (λ (b : Bool). cond b others (first ∷ without child others)) (before 0 (omega arith))
    ∙ ap (λ (l : List ℕ). first ∷ l) (without_at child others i (omega (arith, within)) here (λ k h. before (suc k) (omega (arith, h))))

without_none_by : (child first : ℕ) (others : List ℕ) (b : Bool) → (first == child) ≡ b → (length others ≤ position_or_len (λ x. x == child) others → without child others ≡ others)
    → length (first ∷ others) ≤ cond (not b) (1 + position_or_len (λ x. x == child) others) 0 → cond b others (first ∷ without child others) ≡ first ∷ others
without_none_by child first others true is rest le = absurd (omega (arith, le))
without_none_by child first others false is rest le = ap (λ (l : List ℕ). first ∷ l) (rest (omega (arith, le)))

without_none : (child : ℕ) (l : List ℕ) → length l ≤ position_or_len (λ x. x == child) l → without child l ≡ l
without_none child [] le = refl
without_none child (first ∷ others) le = without_none_by child first others (first == child) refl (without_none child others) le

past : (n m : ℕ) (b : Bool) → nat_lt n m ≡ b → cond b (Some n) None ≡ None → m ≤ n
past n m true is e = absurd (cc)
past n m false is e = ltb-false n m is

pub without_found : (child : ℕ) (l : List ℕ) (i : ℕ) → position (λ x. x == child) l ≡ Some i → without child l ≡ remove l i
without_found child l i is = let h = position-Some (λ x. x == child) l i 0 is in without_at child l i h.0 h.1 h.2

pub without_missing : (child : ℕ) (l : List ℕ) → position (λ x. x == child) l ≡ None → without child l ≡ l
without_missing child l is = without_none child l (past (position_or_len (λ x. x == child) l) (length l) (nat_lt (position_or_len (λ x. x == child) l) (length l)) refl is)
