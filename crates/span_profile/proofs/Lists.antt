-- The elements of lists, by their places.
use Rattle.std.proofs.Common.{◌≡◌, ◌⊎◌, inl, inr, ℕ, zero, suc, List, [], ◌∷◌, ◌++◌, length, map, Some, refl, ap, subst, arith}
use Rattle.std.specs.Prelude.{slice_get}
use Rattle.std.specs.List.{AllZip, Contains}

pub contains_first : {X : Type 0} (x : X) (xs : List X) → Contains (x ∷ xs) x
contains_first x xs = (0, omega arith, refl)

pub contains_later : {X : Type 0} (x y : X) (xs : List X) → Contains xs y → Contains (x ∷ xs) y
contains_later x y xs has = (suc has.0, omega (arith, has.1), has.2)

pub contains_cases : {X : Type 0} (x y : X) (xs : List X) → Contains (x ∷ xs) y → (x ≡ y) ⊎ Contains xs y
contains_cases x y xs (zero, below, is) = inl is
contains_cases x y xs (suc n, below, is) = inr (n, omega (arith, below), is)

pub contains_none : {X : Type 0} (y : X) → ¬ Contains [] y
contains_none y has = omega (arith, has.1)

-- the elements of a list that is made by a function
pub contains_map : {X Y : Type 0} (f : X → Y) (xs : List X) (x : X) → Contains xs x → Contains (map f xs) (f x)
contains_map f [] x has = absurd (contains_none x has)
contains_map f (first ∷ others) x has = elim (contains_cases first x others has) [
  | inl same ↦ subst (λ z. Contains (map f (first ∷ others)) (f z)) same (contains_first (f first) (map f others))
  | inr later ↦ contains_later (f first) (f x) (map f others) (contains_map f others x later)
]

pub map_contains : {X Y : Type 0} (f : X → Y) (xs : List X) (y : Y) → Contains (map f xs) y → (x : X) × Contains xs x × (f x ≡ y)
map_contains f [] y has = absurd (contains_none y has)
map_contains f (first ∷ others) y has = elim (contains_cases (f first) y (map f others) has) [
  | inl same ↦ (first, contains_first first others, same)
  | inr later ↦ (let rest = map_contains f others y later in (rest.0, contains_later first rest.0 others rest.1, rest.2))
]

-- lists of pairs of related elements
pub zip_first : {X Y : Type 0} (R : X → Y → Type 0) (xs : List X) (ys : List Y) (i : ℕ) (x : X) → AllZip R xs ys → slice_get xs i ≡ Some x → (y : Y) × (slice_get ys i ≡ Some y) × R x y
zip_first R [] [] i x all found = absurd (cc)
zip_first R [] (y ∷ ys) i x all found = absurd all
zip_first R (a ∷ xs) [] i x all found = absurd all
zip_first R (a ∷ xs) (y ∷ ys) zero x all found = let same : a ≡ x = cc in (y, refl, subst (λ z. R z y) same all.0)
zip_first R (a ∷ xs) (y ∷ ys) (suc i) x all found = zip_first R xs ys i x all.1 found

pub zip_second : {X Y : Type 0} (R : X → Y → Type 0) (xs : List X) (ys : List Y) (i : ℕ) (y : Y) → AllZip R xs ys → slice_get ys i ≡ Some y → (x : X) × (slice_get xs i ≡ Some x) × R x y
zip_second R [] [] i y all found = absurd (cc)
zip_second R [] (b ∷ ys) i y all found = absurd all
zip_second R (a ∷ xs) [] i y all found = absurd all
zip_second R (a ∷ xs) (b ∷ ys) zero y all found = let same : b ≡ y = cc in (a, refl, subst (R a) same all.0)
zip_second R (a ∷ xs) (b ∷ ys) (suc i) y all found = zip_second R xs ys i y all.1 found

pub zip_length : {X Y : Type 0} (R : X → Y → Type 0) (xs : List X) (ys : List Y) → AllZip R xs ys → length xs ≡ length ys
zip_length R [] [] all = refl
zip_length R [] (y ∷ ys) all = absurd all
zip_length R (x ∷ xs) [] all = absurd all
zip_length R (x ∷ xs) (y ∷ ys) all = ap (λ (n : ℕ). suc n) (zip_length R xs ys all.1)

pub zip_push : {X Y : Type 0} (R : X → Y → Type 0) (xs : List X) (ys : List Y) (x : X) (y : Y) → AllZip R xs ys → R x y → AllZip R (xs ++ x ∷ []) (ys ++ y ∷ [])
zip_push R [] [] x y all pair = (pair, tt)
zip_push R [] (b ∷ ys) x y all pair = absurd all
zip_push R (a ∷ xs) [] x y all pair = absurd all
zip_push R (a ∷ xs) (b ∷ ys) x y all pair = (all.0, zip_push R xs ys x y all.1 pair)
