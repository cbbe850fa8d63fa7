-- Places of a list after one of them was set and after an element was put at the end, and how many elements pass a test.
use Rattle.std.proofs.Common.{◌≡◌, ◌≢◌, ◌⊎◌, ◌+◌, ◌<◌, ℕ, zero, suc, Bool, cond, List, [], ◌∷◌, ◌++◌, length, map, Option, Some, inl, inr, refl, ap, subst, arith}
use Rattle.std.specs.Prelude.{slice_get, slice_set, slice_index_or}
use Rattle.std.specs.List.{count_by}
use Rattle.std.proofs.lemmas.Option.{slice_get_within, get_or_from_slice_get}
use Rattle.std.proofs.lemmas.List.Sums.{sum_by-set, sum_by_push}

pub got_one : {A : Type 0} {x y : A} (o : Option A) → o ≡ Some x → o ≡ Some y → x ≡ y
got_one o e f = cc

pub set_same : {A : Type 0} (xs : List A) (t : ℕ) (x y : A) → slice_get xs t ≡ Some x → slice_get (slice_set xs t y) t ≡ Some y
set_same [] t x y e = absurd (cc)
set_same (z ∷ zs) zero x y e = refl
set_same (z ∷ zs) (suc t) x y e = set_same zs t x y e

pub set_other : {A : Type 0} (xs : List A) (t u : ℕ) (y : A) → u ≢ t → slice_get (slice_set xs t y) u ≡ slice_get xs u
set_other [] t u y ne = refl
set_other (z ∷ zs) zero zero y ne = absurd (ne refl)
set_other (z ∷ zs) zero (suc u) y ne = refl
set_other (z ∷ zs) (suc t) zero y ne = refl
set_other (z ∷ zs) (suc t) (suc u) y ne = set_other zs t u y (λ e. ne (ap (λ n. suc n) e))

-- an element of a list of which one place was set is the new one, or was there before
pub set_cases : {A : Type 0} (xs : List A) (t u : ℕ) (y a : A) → slice_get (slice_set xs t y) u ≡ Some a → ((u ≡ t) × (y ≡ a)) ⊎ ((u ≢ t) × (slice_get xs u ≡ Some a))
set_cases [] t u y a e = absurd (cc)
set_cases (z ∷ zs) zero zero y a e = inl (refl, cc)
set_cases (z ∷ zs) zero (suc u) y a e = inr (λ x. cc, e)
set_cases (z ∷ zs) (suc t) zero y a e = inr (λ x. cc, e)
set_cases (z ∷ zs) (suc t) (suc u) y a e =
    elim (set_cases zs t u y a e) [
      | inl same ↦ inl (ap (λ n. suc n) same.0, same.1)
      | inr other ↦ inr (λ x. other.0 (cc), other.1)
    ]

pub put_before : {A : Type 0} (xs : List A) (y : A) (u : ℕ) (a : A) → slice_get xs u ≡ Some a → slice_get (xs ++ y ∷ []) u ≡ Some a
put_before [] y u a e = absurd (cc)
put_before (x ∷ xs) y zero a e = e
put_before (x ∷ xs) y (suc u) a e = put_before xs y u a e

pub put_last : {A : Type 0} (xs : List A) (y : A) (n : ℕ) → n ≡ length xs → slice_get (xs ++ y ∷ []) n ≡ Some y
put_last [] y zero e = refl
put_last [] y (suc n) e = absurd (omega (arith, e))
put_last (x ∷ xs) y zero e = absurd (omega (arith, e))
put_last (x ∷ xs) y (suc n) e = let same : n ≡ length xs = omega (arith, e) in put_last xs y n same

-- an element of a list at whose end one was put was there before, or is that one
pub put_cases : {A : Type 0} (xs : List A) (y : A) (u : ℕ) (a : A) → slice_get (xs ++ y ∷ []) u ≡ Some a → (slice_get xs u ≡ Some a) ⊎ ((u ≡ length xs) × (y ≡ a))
put_cases [] y zero a e = inr (refl, cc)
put_cases [] y (suc u) a e = absurd (cc)
put_cases (x ∷ xs) y zero a e = inl e
put_cases (x ∷ xs) y (suc u) a e =
    elim (put_cases xs y u a e) [
      | inl before ↦ inl before
      | inr last ↦ let same : u ≡ length xs = last.0 in inr (omega arith, last.1)
    ]

pub below_there : {A : Type 0} (xs : List A) (u : ℕ) → u < length xs → (a : A) × (slice_get xs u ≡ Some a)
below_there [] u lt = absurd (omega arith)
below_there (x ∷ xs) zero lt = (x, refl)
below_there (x ∷ xs) (suc u) lt = below_there xs u (omega arith)

pub map_set : {A B : Type 0} (f : A → B) (xs : List A) (t : ℕ) (y : A) → map f (slice_set xs t y) ≡ slice_set (map f xs) t (f y)
map_set f [] t y = refl
map_set f (x ∷ xs) zero y = refl
map_set f (x ∷ xs) (suc t) y = ap (λ zs. f x ∷ zs) (map_set f xs t y)

pub map_index : {A B : Type 0} (f : A → B) (xs : List A) (t : ℕ) (x : A) (d : B) → slice_get xs t ≡ Some x → slice_index_or (map f xs) t d ≡ f x
map_index f [] t x d e = absurd (cc)
map_index f (y ∷ ys) zero x d e = let same : y ≡ x = cc in ap f same
map_index f (y ∷ ys) (suc t) x d e = map_index f ys t x d e

-- how many pass a test after a place was set, and after one was put at the end
pub count_set : {A : Type 0} (p : A → Bool) (xs : List A) (t : ℕ) (x y : A) → slice_get xs t ≡ Some x
    → count_by p (slice_set xs t y) + cond {A = ℕ} (p x) 1 0 ≡ count_by p xs + cond {A = ℕ} (p y) 1 0
count_set {A} p xs t x y e =
    subst (λ (a : A). count_by p (slice_set xs t y) + cond {A = ℕ} (p a) 1 0 ≡ count_by p xs + cond {A = ℕ} (p y) 1 0) (get_or_from_slice_get xs t x x e)
    (sum_by-set (λ a. cond {A = ℕ} (p a) 1 0) xs t y x (slice_get_within xs t x e))

pub count_put : {A : Type 0} (p : A → Bool) (xs : List A) (y : A) → count_by p (xs ++ y ∷ []) ≡ count_by p xs + cond {A = ℕ} (p y) 1 0
count_put p xs y = sum_by_push (λ a. cond {A = ℕ} (p a) 1 0) xs y
