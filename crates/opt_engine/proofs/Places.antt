-- Places of a list after one of them was set, and facts on each item of a list.
use Rattle.std.proofs.Common.{◌≡◌, ◌<◌, ℕ, zero, suc, Bool, true, false, List, [], ◌∷◌, ◌++◌, length, map, replicate, Some, refl, sym, ap, ◌∙◌, subst, inl, inr, arith}
use Rattle.std.specs.List.{All}
use Rattle.std.specs.Prelude.{◌||◌, if◌then◌else◌, nat_eq, slice_get, slice_set}
use Rattle.std.proofs.lemmas.Bool.{false≢true}
use Rattle.std.proofs.lemmas.Bool.Decides.{eqb_tells}
use Rattle.machine_state.proofs.lists.Places.{set_other, set_same}

-- Choices by a test.

pub if_true : {A : Type 0} (b : Bool) (x y : A) → b ≡ true → (if b then x else y) ≡ x
if_true b x y is = ap (λ (t : Bool). if t then x else y) is

pub if_false : {A : Type 0} (b : Bool) (x y : A) → b ≡ false → (if b then x else y) ≡ y
if_false b x y is = ap (λ (t : Bool). if t then x else y) is

pub or_true : (a : Bool) → (a || true) ≡ true
or_true true = refl
or_true false = refl

pub or_false : (a : Bool) → (a || false) ≡ a
or_false true = refl
or_false false = refl

pub neither : (a b : Bool) → (a || b) ≡ false → (a ≡ false) × (b ≡ false)
neither true b is = absurd (false≢true (sym is))
neither false b is = (refl, is)

-- Places.

-- the place c of a list was set: each place k has what is chosen by whether it is c
pub set_place : {A : Type 0} (xs : List A) (c k : ℕ) (x y z : A) → slice_get xs k ≡ Some y → (c ≡ k → x ≡ z)
    → slice_get (slice_set xs c x) k ≡ Some (if nat_eq c k then z else y)
set_place {A} xs c k x y z here own =
    elim (eqb_tells c k) [
      | inl same ↦ (
          let there : slice_get xs c ≡ Some y = subst (λ (n : ℕ). slice_get xs n ≡ Some y) (sym same.1) here in
          let set : slice_get (slice_set xs c x) k ≡ Some x = subst (λ (n : ℕ). slice_get (slice_set xs c x) n ≡ Some x) same.1 (set_same xs c y x there) in
          set ∙ (ap (λ (a : A). Some a) (own same.1) ∙ ap (λ (a : A). Some a) (sym (if_true (nat_eq c k) z y same.0)))
          )
      | inr other ↦ set_other xs c k x (λ e. other.1 (sym e)) ∙ (here ∙ ap (λ (a : A). Some a) (sym (if_false (nat_eq c k) z y other.0)))
    ]

-- what a place has may be chosen by whether it is c, if both are the same there
pub same_place : {A : Type 0} (c k : ℕ) (y z : A) → (c ≡ k → y ≡ z) → y ≡ (if nat_eq c k then z else y)
same_place c k y z own =
    elim (eqb_tells c k) [
      | inl same ↦ own same.1 ∙ sym (if_true (nat_eq c k) z y same.0)
      | inr other ↦ sym (if_false (nat_eq c k) z y other.0)
    ]

pub get_replicate : {A : Type 0} (n k : ℕ) (x : A) → k < n → slice_get (replicate n x) k ≡ Some x
get_replicate zero k x lt = absurd (omega arith)
get_replicate (suc n) zero x lt = refl
get_replicate (suc n) (suc k) x lt = let less : k < n = omega arith in get_replicate n k x less

-- lists of one length that have the same at each place are the same
pub same_list : {A : Type 0} (xs ys : List A) → length xs ≡ length ys → ((k : ℕ) → k < length xs → slice_get xs k ≡ slice_get ys k) → xs ≡ ys
same_list [] [] long same = refl
same_list [] (y ∷ ys) long same = absurd (omega arith)
same_list (x ∷ xs) [] long same = absurd (omega arith)
same_list {A} (x ∷ xs) (y ∷ ys) long same =
    let first : x ≡ y = let some = same 0 (omega arith) in cc some in
    let less : length xs ≡ length ys = omega arith in
    let rest : xs ≡ ys = same_list xs ys less (λ k lt. same (suc k) (omega arith)) in
    λ i. first i ∷ rest i

-- Each item.

abbrev pub Each : {A : Type 0} → (A → Type 0) → List A → Type 0
Each P [] = Unit {0}
Each P (x ∷ xs) = P x × Each P xs

pub each_weaker : {A : Type 0} (P Q : A → Type 0) (xs : List A) → ((x : A) → P x → Q x) → Each P xs → Each Q xs
each_weaker P Q [] weaker each = tt
each_weaker P Q (x ∷ xs) weaker each = (weaker x each.0, each_weaker P Q xs weaker each.1)

pub each_push : {A : Type 0} (P : A → Type 0) (xs : List A) (x : A) → Each P xs → P x → Each P (xs ++ x ∷ [])
each_push P [] x each has = (has, tt)
each_push P (y ∷ ys) x each has = (each.0, each_push P ys x each.1 has)

pub each_pushed : {A : Type 0} (P : A → Type 0) (xs : List A) (x : A) → Each P (xs ++ x ∷ []) → Each P xs × P x
each_pushed P [] x each = (tt, each.0)
each_pushed P (y ∷ ys) x each = let rest = each_pushed P ys x each.1 in ((each.0, rest.0), rest.1)

pub each_map : {A B : Type 0} (P : B → Type 0) (f : A → B) (xs : List A) → Each (λ x. P (f x)) xs → Each P (map f xs)
each_map P f [] each = tt
each_map P f (x ∷ xs) each = (each.0, each_map P f xs each.1)

pub map_same : {A B : Type 0} (f g : A → B) (xs : List A) → Each (λ x. f x ≡ g x) xs → map f xs ≡ map g xs
map_same f g [] each = refl
map_same f g (x ∷ xs) each = λ i. each.0 i ∷ map_same f g xs each.1 i

pub all_each : {A : Type 0} (P : A → Type 0) (xs : List A) → All P xs → Each P xs
all_each P [] all = tt
all_each P (x ∷ xs) all = (all 0 x (omega arith), all_each P xs (λ k d lt. all (suc k) d (omega arith)))

pub each_all : {A : Type 0} (P : A → Type 0) (xs : List A) → Each P xs → All P xs
each_all P [] each k d lt = absurd (omega arith)
each_all P (x ∷ xs) each zero d lt = each.0
each_all P (x ∷ xs) each (suc k) d lt = each_all P xs each.1 k d (omega arith)
