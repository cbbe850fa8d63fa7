-- Unjoined children and kept values.
use Rattle.std.proofs.Common.{◌≡◌, ◌≢◌, ◌<◌, ◌⊎◌, inl, inr, ℕ, zero, suc, ℤ, Bool, true, false, List, [], ◌∷◌, ◌++◌, length, refl, sym, ap, ◌∙◌, arith}
use Rattle.std.specs.Prelude.{◌==◌, ◌||◌, map, slice_get, slice_set, if◌then◌else◌}
use Rattle.std.specs.List.{list_any}
use Rattle.std.proofs.lemmas.Bool.{eq-eqb, eqb-true}
use Rattle.seg_meaning.specs.Access.{value_in}
use Rattle.seg_meaning.specs.Giving.{without}
use Rattle.determinism_laws.specs.numbering.Renumbering.{Numbering}
use Rattle.determinism_laws.specs.numbering.Played.{IsInjective}

-- tests of numbers do not see the numbers
eq_by : (to : Numbering) → IsInjective to → (a b : ℕ) (new old : Bool) → (to a == to b) ≡ new → (a == b) ≡ old → new ≡ old
eq_by to apart a b true true f e = refl
eq_by to apart a b false false f e = refl
eq_by to apart a b true false f e =
    let clash : false ≡ true = sym e ∙ eq-eqb a b (apart a b (eqb-true (to a) (to b) f)) in
    absurd (cc)
eq_by to apart a b false true f e =
    let clash : false ≡ true = sym f ∙ eq-eqb (to a) (to b) (ap to (eqb-true a b e)) in
    absurd (cc)

pub any_renumbered : (to : Numbering) → IsInjective to → (child : ℕ) (out : List ℕ)
    → list_any (λ c. c == to child) (map to out) ≡ list_any (λ c. c == child) out
any_renumbered to apart child [] = refl
any_renumbered to apart child (first ∷ others) =
    ap (λ (b : Bool). b || list_any (λ c. c == to child) (map to others)) (eq_by to apart first child (to first == to child) (first == child) refl refl)
    ∙ ap (λ (b : Bool). (first == child) || b) (any_renumbered to apart child others)

-- a child that is left was there
or_right : (a b : Bool) → b ≡ true → (a || b) ≡ true
or_right true b e = refl
or_right false b e = e

or_with : (a b c : Bool) → (b ≡ true → c ≡ true) → (a || b) ≡ true → (a || c) ≡ true
or_with true b c more e = refl
or_with false b c more e = more e

left_by : (on child first : ℕ) (others : List ℕ) (is : Bool) → (list_any (λ c. c == child) (without on others) ≡ true → list_any (λ c. c == child) others ≡ true)
    → list_any (λ c. c == child) (if is then others else (first ∷ without on others)) ≡ true → ((first == child) || list_any (λ c. c == child) others) ≡ true
left_by on child first others true rest e = or_right (first == child) (list_any (λ c. c == child) others) e
left_by on child first others false rest e = or_with (first == child) (list_any (λ c. c == child) (without on others)) (list_any (λ c. c == child) others) rest e

pub left_was_there : (on child : ℕ) (out : List ℕ) → list_any (λ c. c == child) (without on out) ≡ true → list_any (λ c. c == child) out ≡ true
left_was_there on child [] e = e
left_was_there on child (first ∷ others) e = left_by on child first others (first == on) (left_was_there on child others) e

-- a child is the last one or was there before
last_by : (first child last : ℕ) (others : List ℕ) (is : Bool) → (list_any (λ c. c == child) (others ++ last ∷ []) ≡ true → (last ≡ child) ⊎ (list_any (λ c. c == child) others ≡ true))
    → (is || list_any (λ c. c == child) (others ++ last ∷ [])) ≡ true → (last ≡ child) ⊎ ((is || list_any (λ c. c == child) others) ≡ true)
last_by first child last others true rest e = inr refl
last_by first child last others false rest e = rest e

only_by : (last child : ℕ) (is : Bool) → (last == child) ≡ is → (is || false) ≡ true → (last ≡ child) ⊎ (false ≡ true)
only_by last child true is e = inl (eqb-true last child is)
only_by last child false is e = absurd (cc)

pub last_or_before : (child last : ℕ) (out : List ℕ) → list_any (λ c. c == child) (out ++ last ∷ []) ≡ true → (last ≡ child) ⊎ (list_any (λ c. c == child) out ≡ true)
last_or_before child last [] e = only_by last child (last == child) refl e
last_or_before child last (first ∷ others) e = last_by first child last others (first == child) (last_or_before child last others) e

-- lists of values
pub get_set : (xs : List ℤ) (k : ℕ) (v : ℤ) → k < length xs → value_in (slice_get (slice_set xs k v) k) ≡ v
get_set [] k v below = absurd (omega (arith, below))
get_set (x ∷ xs) zero v below = refl
get_set (x ∷ xs) (suc k) v below = get_set xs k v (omega (arith, below))

pub get_other : (xs : List ℤ) (k j : ℕ) (v : ℤ) → j ≢ k → value_in (slice_get (slice_set xs k v) j) ≡ value_in (slice_get xs j)
get_other [] k j v other = refl
get_other (x ∷ xs) zero zero v other = absurd (other refl)
get_other (x ∷ xs) zero (suc j) v other = refl
get_other (x ∷ xs) (suc k) zero v other = refl
get_other (x ∷ xs) (suc k) (suc j) v other = get_other xs k j v (λ e. other (ap suc e))

pub get_before : (xs : List ℤ) (v : ℤ) (k : ℕ) → k < length xs → value_in (slice_get (xs ++ v ∷ []) k) ≡ value_in (slice_get xs k)
get_before [] v k below = absurd (omega (arith, below))
get_before (x ∷ xs) v zero below = refl
get_before (x ∷ xs) v (suc k) below = get_before xs v k (omega (arith, below))
