-- What stands in the lists after one of them was changed.
use Rattle.std.proofs.Common.{◌≡◌, ◌≢◌, ◌<◌, ℕ, zero, suc, List, [], ◌∷◌, ◌++◌, length, Some, sym, ◌∙◌, subst, ⊎_elim, arith}
use Rattle.std.specs.Prelude.{slice_get, slice_set}
use Rattle.std.specs.List.{Contains}
use Rattle.std.proofs.lemmas.Bool.{cases_eq}
use Rattle.flat_sched.specs.inner.Lists.{IsListed}
use Rattle.machine_state.proofs.lists.Places.{got_one, set_same, set_other, put_before}

-- one list is replaced by one that has its tasks too
pub listed_set : (lists : List (List ℕ)) (at : ℕ) (list new : List ℕ) → slice_get lists at ≡ Some list → ((s : ℕ) → Contains list s → Contains new s)
    → (u s : ℕ) → IsListed lists u s → IsListed (slice_set lists at new) u s
listed_set lists at list new e keeps u s h =
    ⊎_elim
    (λ (same : u ≡ at).
    let here : slice_get lists at ≡ Some h.0 = subst (λ (n : ℕ). slice_get lists n ≡ Some h.0) same h.1 in
    let is : h.0 ≡ list = got_one (slice_get lists at) here e in
    let there = subst (λ (l : List ℕ). Contains l s) is h.2 in
    subst (λ (n : ℕ). IsListed (slice_set lists at new) n s) (sym same) (new, set_same lists at list new e, keeps s there))
    (λ (other : u ≢ at). (h.0, set_other lists at u new other ∙ h.1, h.2))
    (cases_eq u at)

pub listed_there : (lists : List (List ℕ)) (at t : ℕ) (list new : List ℕ) → slice_get lists at ≡ Some list → Contains new t → IsListed (slice_set lists at new) at t
listed_there lists at t list new e there = (new, set_same lists at list new e, there)

-- the others stay
pub listed_other : (lists : List (List ℕ)) (at : ℕ) (new : List ℕ) (u s : ℕ) → u ≢ at → IsListed lists u s → IsListed (slice_set lists at new) u s
listed_other lists at new u s other h = (h.0, set_other lists at u new other ∙ h.1, h.2)

-- a list is put at the end
pub listed_more : (lists : List (List ℕ)) (new : List ℕ) (u s : ℕ) → IsListed lists u s → IsListed (lists ++ new ∷ []) u s
listed_more lists new u s h = (h.0, put_before lists new u h.0 h.1, h.2)

-- a task on the list
pub listed_in : (lists : List (List ℕ)) (u s : ℕ) (list : List ℕ) → slice_get lists u ≡ Some list → IsListed lists u s → Contains list s
listed_in lists u s list e h = subst (λ (l : List ℕ). Contains l s) (got_one (slice_get lists u) h.1 e) h.2

-- a number before the others, and a number that is not before the others
pub contains_more : (y x : ℕ) (xs : List ℕ) → Contains xs x → Contains (y ∷ xs) x
contains_more y x xs h = let below : h.0 < length xs = h.1 in (suc h.0, omega arith, h.2)

pub contains_rest : (y x : ℕ) (xs : List ℕ) → y ≢ x → Contains (y ∷ xs) x → Contains xs x
contains_rest y x xs ne (zero, below, e) = absurd (ne e)
contains_rest y x xs ne (suc k, below, e) = let less : k < length xs = omega arith in (k, less, e)
