-- How the fronts change by a node, key by key.
use Rattle.std.proofs.Common.{◌≡◌, ◌<◌, ℕ, zero, suc, Bool, true, false, List, [], ◌∷◌, ◌++◌, length, Option, None, Some, refl, sym, ap, ◌∙◌, arith, inl, inr}
use Rattle.std.specs.Prelude.{◌==◌, ◌||◌, slice_get, slice_set, if◌then◌else◌}
use Rattle.std.proofs.lemmas.Bool.{cases_eq, eq-eqb, ne_eqb}
use Rattle.span_profile.specs.declared.heaviest_chain.top.Top.{Top}
use Rattle.span_profile.specs.heaviest_chain.inner.Fronts.{front_after, top_found, top_in}
use Rattle.span_profile.specs.heaviest_chain.inner.Tops.{higher, is_topped}

-- room for one number more changes nothing
pub top_in_more : (tops : List (Option Top)) (n : ℕ) → top_in (tops ++ None ∷ []) n ≡ top_in tops n
top_in_more [] zero = refl
top_in_more [] (suc n) = refl
top_in_more (top ∷ tops) zero = refl
top_in_more (top ∷ tops) (suc n) = top_in_more tops n

get_set_same : {X : Type 0} (xs : List X) (i : ℕ) (x : X) → i < length xs → slice_get (slice_set xs i x) i ≡ Some x
get_set_same [] i x below = absurd (omega (arith, below))
get_set_same (y ∷ ys) zero x below = refl
get_set_same (y ∷ ys) (suc i) x below = get_set_same ys i x (omega (arith, below))

get_set_other : {X : Type 0} (xs : List X) (i n : ℕ) (x : X) → ¬ (n ≡ i) → slice_get (slice_set xs i x) n ≡ slice_get xs n
get_set_other [] i n x differ = refl
get_set_other (y ∷ ys) zero zero x differ = absurd (differ refl)
get_set_other (y ∷ ys) zero (suc n) x differ = refl
get_set_other (y ∷ ys) (suc i) zero x differ = refl
get_set_other (y ∷ ys) (suc i) (suc n) x differ = get_set_other ys i n x (λ same. differ (ap (λ (m : ℕ). suc m) same))

-- a node that is counted among those of a number
pub given_at : (tops : List (Option Top)) (at n : ℕ) (top : Top) → at < length tops
    → top_in (slice_set tops at (higher (top_in tops at) (Some top))) n ≡ front_after (n == at) (top_in tops n) top
given_at tops at n top below = elim (cases_eq n at) [ inl same ↦ at_same same | inr differ ↦ at_other differ ]
  where
    at_same : n ≡ at → top_in (slice_set tops at (higher (top_in tops at) (Some top))) n ≡ front_after (n == at) (top_in tops n) top
    at_same same =
        ap (top_in (slice_set tops at (higher (top_in tops at) (Some top)))) same
        ∙ (ap top_found (get_set_same tops at (higher (top_in tops at) (Some top)) below)
        ∙ (sym (ap (λ (m : ℕ). higher (top_in tops m) (Some top)) same)
        ∙ sym (ap (λ (t : Bool). front_after t (top_in tops n) top) (eq-eqb n at same))))

    at_other : ¬ (n ≡ at) → top_in (slice_set tops at (higher (top_in tops at) (Some top))) n ≡ front_after (n == at) (top_in tops n) top
    at_other differ =
        ap top_found (get_set_other tops at n (higher (top_in tops at) (Some top)) differ)
        ∙ sym (ap (λ (t : Bool). front_after t (top_in tops n) top) (ne_eqb n at differ))

-- the same node once more changes nothing
again_by : (a top : Top) (t : Bool) → is_topped a top ≡ t → higher (if t then Some top else Some a) (Some top) ≡ (if t then Some top else Some a)
again_by a top true e = one_of (is_topped top top)
  where
    one_of : (u : Bool) → (if u then Some top else Some top) ≡ Some top
    one_of true = refl
    one_of false = refl
again_by a top false e = ap (λ (t : Bool). if t then Some top else Some a) e

again : (before : Option Top) (top : Top) → higher (higher before (Some top)) (Some top) ≡ higher before (Some top)
again None top = one_of (is_topped top top)
  where
    one_of : (u : Bool) → (if u then Some top else Some top) ≡ Some top
    one_of true = refl
    one_of false = refl
again (Some a) top = again_by a top (is_topped a top) refl

-- a node that gave one of some keys, and then a further one
pub given_more : (before : Option Top) (top : Top) (so_far this : Bool) → front_after this (front_after so_far before top) top ≡ front_after (so_far || this) before top
given_more before top false this = refl
given_more before top true true = again before top
given_more before top true false = refl
