-- Elements of a list, by recursion on it, and tests of two parts.
use Rattle.std.proofs.Common.{◌≡◌, ◌⊎◌, ◌<◌, zero, suc, Bool, true, false, not, ◌&&◌, ◌||◌, List, [], ◌∷◌, ◌++◌, length, inl, inr, refl, sym, ap, ◌∙◌, subst, arith}
use Rattle.std.proofs.lemmas.Bool.{false≢true}
use Rattle.std.specs.List.{Contains, list_all, list_any, flat_map, AllByRecursion}

abbrev pub IsIn : {X : Type 0} → X → List X → Type 0
IsIn x [] = ⊥
IsIn x (y ∷ ys) = (x ≡ y) ⊎ IsIn x ys

pub in-left : {X : Type 0} (x : X) (xs ys : List X) → IsIn x xs → IsIn x (xs ++ ys)
in-left x [] ys h = absurd h
in-left x (y ∷ xs) ys (inl e) = inl e
in-left x (y ∷ xs) ys (inr h) = inr (in-left x xs ys h)

pub in-right : {X : Type 0} (x : X) (xs ys : List X) → IsIn x ys → IsIn x (xs ++ ys)
in-right x [] ys h = h
in-right x (y ∷ xs) ys h = inr (in-right x xs ys h)

pub in-cases : {X : Type 0} (x : X) (xs ys : List X) → IsIn x (xs ++ ys) → IsIn x xs ⊎ IsIn x ys
in-cases x [] ys h = inr h
in-cases x (y ∷ xs) ys (inl e) = inl (inl e)
in-cases x (y ∷ xs) ys (inr h) = elim (in-cases x xs ys h) [ inl front ↦ inl (inr front) | inr back ↦ inr back ]

pub contains-in : {X : Type 0} (xs : List X) (x : X) → Contains xs x → IsIn x xs
contains-in [] x c = absurd (omega (arith, c.1))
contains-in (y ∷ ys) x (zero, h, e) = inl (sym e)
contains-in (y ∷ ys) x (suc k, h, e) = let below : k < length ys = omega arith in inr (contains-in ys x (k, below, e))

pub in-contains : {X : Type 0} (xs : List X) (x : X) → IsIn x xs → Contains xs x
in-contains [] x h = absurd h
in-contains (y ∷ ys) x (inl e) = (0, omega arith, sym e)
in-contains (y ∷ ys) x (inr h) =
    let c = in-contains ys x h in
    let below : c.0 < length ys = c.1 in
    (suc c.0, omega arith, c.2)

-- an element of what each thing of a list gives
pub flat_map-in : {X Y : Type 0} (f : X → List Y) (xs : List X) (y : Y) → IsIn y (flat_map f xs) → (x : X) × IsIn x xs × IsIn y (f x)
flat_map-in f [] y h = absurd h
flat_map-in f (x ∷ xs) y h = elim (in-cases y (f x) (flat_map f xs) h) [
  | inl here ↦ (x, inl refl, here)
  | inr later ↦ let found = flat_map-in f xs y later in (found.0, inr found.1, found.2)
]

pub in-flat_map : {X Y : Type 0} (f : X → List Y) (xs : List X) (x : X) (y : Y) → IsIn x xs → IsIn y (f x) → IsIn y (flat_map f xs)
in-flat_map f [] x y there h = absurd there
in-flat_map f (z ∷ xs) x y (inl e) h = in-left y (f z) (flat_map f xs) (subst (λ w. IsIn y (f w)) e h)
in-flat_map f (z ∷ xs) x y (inr there) h = in-right y (f z) (flat_map f xs) (in-flat_map f xs x y there h)

-- tests of two parts
pub not-true : (b : Bool) → not b ≡ true → b ≡ false
not-true true h = absurd (false≢true h)
not-true false h = refl

pub false-not : (b : Bool) → b ≡ false → not b ≡ true
false-not b e = ap not e

pub both-true : (a b : Bool) → (a && b) ≡ true → (a ≡ true) × (b ≡ true)
both-true true b h = (refl, h)
both-true false b h = absurd (false≢true h)

pub true-both : (a b : Bool) → a ≡ true → b ≡ true → (a && b) ≡ true
true-both true b e h = h
true-both false b e h = absurd (false≢true e)

pub or-true : (a b : Bool) → (a || b) ≡ true → (a ≡ true) ⊎ (b ≡ true)
or-true true b h = inl refl
or-true false b h = inr h

pub true-or : (a b : Bool) → (a ≡ true) ⊎ (b ≡ true) → (a || b) ≡ true
true-or true b h = refl
true-or false b (inl e) = absurd (false≢true e)
true-or false b (inr e) = e

-- tests of each element, and of one
pub list_all-in : {X : Type 0} (p : X → Bool) (xs : List X) → list_all p xs ≡ true → (x : X) → IsIn x xs → p x ≡ true
list_all-in p [] h x i = absurd i
list_all-in p (y ∷ ys) h x (inl e) = ap p e ∙ (both-true (p y) (list_all p ys) h).0
list_all-in p (y ∷ ys) h x (inr i) = list_all-in p ys (both-true (p y) (list_all p ys) h).1 x i

pub in-list_all : {X : Type 0} (p : X → Bool) (xs : List X) → ((x : X) → IsIn x xs → p x ≡ true) → list_all p xs ≡ true
in-list_all p [] h = refl
in-list_all p (y ∷ ys) h = true-both (p y) (list_all p ys) (h y (inl refl)) (in-list_all p ys (λ x i. h x (inr i)))

pub list_any-in : {X : Type 0} (p : X → Bool) (xs : List X) → list_any p xs ≡ true → (x : X) × IsIn x xs × (p x ≡ true)
list_any-in p [] h = absurd (false≢true h)
list_any-in p (y ∷ ys) h = elim (or-true (p y) (list_any p ys) h) [
  | inl e ↦ (y, inl refl, e)
  | inr more ↦ let found = list_any-in p ys more in (found.0, inr found.1, found.2)
]

pub in-list_any : {X : Type 0} (p : X → Bool) (xs : List X) (x : X) → IsIn x xs → p x ≡ true → list_any p xs ≡ true
in-list_any p [] x there h = absurd there
in-list_any p (y ∷ ys) x (inl e) h = true-or (p y) (list_any p ys) (inl (ap p (sym e) ∙ h))
in-list_any p (y ∷ ys) x (inr there) h = true-or (p y) (list_any p ys) (inr (in-list_any p ys x there h))

-- a fact about each element
pub all-in : {X : Type 0} (P : X → Type 0) (xs : List X) → AllByRecursion P xs → (x : X) → IsIn x xs → P x
all-in P [] h x i = absurd i
all-in P (y ∷ ys) h x (inl e) = subst P (sym e) h.0
all-in P (y ∷ ys) h x (inr i) = all-in P ys h.1 x i

pub all-append : {X : Type 0} (P : X → Type 0) (xs ys : List X) → AllByRecursion P xs → AllByRecursion P ys → AllByRecursion P (xs ++ ys)
all-append P [] ys h k = k
all-append P (x ∷ xs) ys h k = (h.0, all-append P xs ys h.1 k)

pub all-front : {X : Type 0} (P : X → Type 0) (xs ys : List X) → AllByRecursion P (xs ++ ys) → AllByRecursion P xs
all-front P [] ys h = tt
all-front P (x ∷ xs) ys h = (h.0, all-front P xs ys h.1)

pub all-back : {X : Type 0} (P : X → Type 0) (xs ys : List X) → AllByRecursion P (xs ++ ys) → AllByRecursion P ys
all-back P [] ys h = h
all-back P (x ∷ xs) ys h = all-back P xs ys h.1
