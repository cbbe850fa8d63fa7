-- What holds of each element of a list, and numbers that count up.
use Rattle.std.proofs.Common.{◌≡◌, ◌<◌, ℕ, ◌+◌, zero, suc, List, [], ◌∷◌, ◌++◌, Some, length, slice_get, Contains, refl, sym, ap, ◌∙◌, subst, arith, append_assoc, length-append}
use Rattle.std.specs.List.{AllByRecursion}
use Rattle.twe_program.specs.Numbering.{CountUp}

pub all-append : {X : Type 0} (P : X → Type 0) (xs ys : List X) → AllByRecursion P xs → AllByRecursion P ys → AllByRecursion P (xs ++ ys)
all-append P [] ys h k = k
all-append P (x ∷ xs) ys h k = (h.0, all-append P xs ys h.1 k)

pub all-front : {X : Type 0} (P : X → Type 0) (xs ys : List X) → AllByRecursion P (xs ++ ys) → AllByRecursion P xs
all-front P [] ys h = tt
all-front P (x ∷ xs) ys h = (h.0, all-front P xs ys h.1)

pub all-back : {X : Type 0} (P : X → Type 0) (xs ys : List X) → AllByRecursion P (xs ++ ys) → AllByRecursion P ys
all-back P [] ys h = h
all-back P (x ∷ xs) ys h = all-back P xs ys h.1

-- an element of a list that another begins with
pub contains-later : {X : Type 0} (x : X) (xs : List X) (y : X) → Contains xs y → Contains (x ∷ xs) y
contains-later x xs y c =
    let below : c.0 < length xs = c.1 in
    (suc c.0, omega arith, c.2)

-- what holds of each element that a list contains holds of all of them
pub contained-all : {X : Type 0} (P : X → Type 0) (xs : List X) → ((x : X) → Contains xs x → P x) → AllByRecursion P xs
contained-all P [] h = tt
contained-all P (x ∷ xs) h = (h x (0, omega arith, refl), contained-all P xs (λ y c. h y (contains-later x xs y c)))

pub all-contained : {X : Type 0} (P : X → Type 0) (xs : List X) → AllByRecursion P xs → (x : X) → Contains xs x → P x
all-contained P [] h x c = absurd (omega (arith, c.1))
all-contained P (y ∷ xs) h x (zero, below, e) = subst P e h.0
all-contained P (y ∷ xs) h x (suc k, below, e) = let less : k < length xs = omega arith in all-contained P xs h.1 x (k, less, e)

-- what stands before an element of a list, and after it
pub record Split {X : Type 0} (xs : List X) (x : X) : Type 0 where
  pub before : List X
  pub after : List X
  pub list : xs ≡ before ++ x ∷ after

pub contains-split : {X : Type 0} (xs : List X) (x : X) → Contains xs x → Split xs x
contains-split [] x c = absurd (omega (arith, c.1))
contains-split (y ∷ xs) x (zero, below, e) = record { before = []; after = xs; list = ap (λ z. z ∷ xs) e }
contains-split (y ∷ xs) x (suc k, below, e) =
    let less : k < length xs = omega arith in
    let rest = contains-split xs x (k, less, e) in
    record { before = y ∷ rest.before; after = rest.after; list = ap (λ zs. y ∷ zs) rest.list }

pub contains-middle : {X : Type 0} (before : List X) (x : X) (after : List X) → Contains (before ++ x ∷ after) x
contains-middle [] x after = (0, omega arith, refl)
contains-middle (y ∷ before) x after = contains-later y (before ++ x ∷ after) x (contains-middle before x after)

slice_get-after : {X : Type 0} (xs : List X) (x : X) (ys : List X) → slice_get (xs ++ x ∷ ys) (length xs) ≡ Some x
slice_get-after [] x ys = refl
slice_get-after (z ∷ xs) x ys = slice_get-after xs x ys

pub slice_get-middle : {X : Type 0} (xs before : List X) (x : X) (after : List X) (n : ℕ) → xs ≡ before ++ x ∷ after → length before ≡ n → slice_get xs n ≡ Some x
slice_get-middle xs before x after n e f =
    ap (λ ys. slice_get ys n) e ∙ ap (λ k. slice_get (before ++ x ∷ after) k) (sym f) ∙ slice_get-after before x after

pub split_later : {X : Type 0} (xs before ys zs : List X) → xs ≡ before ++ (ys ++ zs) → xs ≡ (before ++ ys) ++ zs
split_later xs before ys zs e = e ∙ sym (append_assoc before ys zs)

pub length-more : {X : Type 0} (xs ys : List X) (n : ℕ) → length xs ≡ n → length (xs ++ ys) ≡ n + length ys
length-more xs ys n e = simp length-append (omega arith)

pub count_up-append : (n : ℕ) (xs ys : List ℕ) → CountUp n xs → CountUp (n + length xs) ys → CountUp n (xs ++ ys)
count_up-append n [] ys h k = subst (λ m. CountUp m ys) (let e : n + 0 ≡ n = omega arith in e) k
count_up-append n (x ∷ xs) ys h k =
    let e : n + suc (length xs) ≡ n + 1 + length xs = omega arith in
    (h.0, count_up-append (n + 1) xs ys h.1 (subst (λ m. CountUp m ys) e k))
