-- Lists no two elements of which are equal, and how long they can be.
use Rattle.std.proofs.Common.{◌≡◌, zero, suc, ◌≤◌, List, [], ◌∷◌, ◌++◌, length, length-append, get_or, refl, sym, ap, subst, ◌∙◌, ◌⊎◌, inl, inr, ⊎_elim, arith}
use Rattle.std.specs.List.{Contains, AllPairs}
use Rattle.std.proofs.lemmas.List.Elements.{Contains-get_or, Contains-append_left, Contains-append_right, Contains-append_cases}

-- no two elements are equal
abbrev pub AreDistinct : {A : Type 0} → List A → Type 0
AreDistinct {A} xs = AllPairs (λ (one other : A). ¬ (one ≡ other)) xs

pub Contains-here : {A : Type 0} (x : A) (xs : List A) → Contains (x ∷ xs) x
Contains-here x xs = (0, omega arith, refl)

pub Contains-later : {A : Type 0} (x : A) (xs : List A) (y : A) → Contains xs y → Contains (x ∷ xs) y
Contains-later x xs y c = let within = c.1 in (suc c.0, omega arith, c.2)

pub Contains-cons : {A : Type 0} (x : A) (xs : List A) (y : A) → Contains (x ∷ xs) y → (x ≡ y) ⊎ Contains xs y
Contains-cons x xs y (zero, h, e) = inl e
Contains-cons x xs y (suc k, h, e) = inr (k, omega arith, e)

distinct-tail : {A : Type 0} (x : A) (xs : List A) → AreDistinct (x ∷ xs) → AreDistinct xs
distinct-tail x xs h i j d below within = h (suc i) (suc j) d (omega arith) (omega arith)

distinct-head : {A : Type 0} (x : A) (xs : List A) → AreDistinct (x ∷ xs) → (y : A) → Contains xs y → ¬ (x ≡ y)
distinct-head x xs h y c e = let within = c.1 in h 0 (suc c.0) y (omega arith) (omega arith) (e ∙ sym c.2)

distinct-cons : {A : Type 0} (x : A) (xs : List A) → ((y : A) → Contains xs y → ¬ (x ≡ y)) → AreDistinct xs → AreDistinct (x ∷ xs)
distinct-cons x xs apart h zero zero d below within = absurd (omega arith)
distinct-cons x xs apart h zero (suc j) d below within = apart (get_or xs j d) (Contains-get_or xs j d (omega arith))
distinct-cons x xs apart h (suc i) zero d below within = absurd (omega arith)
distinct-cons x xs apart h (suc i) (suc j) d below within = h i j d (omega arith) (omega arith)

-- an element stands between what comes before and what comes after
split : {A : Type 0} (xs : List A) (x : A) → Contains xs x → (front : List A) × (back : List A) × (xs ≡ front ++ x ∷ back)
split [] x c = let none = c.1 in absurd (omega arith)
split {A} (y ∷ ys) x c =
    ⊎_elim
    (λ e. ([], ys, ap (λ (z : A). z ∷ ys) e))
    (λ d. let s = split ys x d in (y ∷ s.0, s.1, ap (λ (zs : List A). y ∷ zs) s.2))
    (Contains-cons y ys x c)

-- what else is an element stays one without it
without : {A : Type 0} (front back : List A) (x y : A) → ¬ (x ≡ y) → Contains (front ++ x ∷ back) y → Contains (front ++ back) y
without front back x y apart c =
    ⊎_elim
    (λ d. Contains-append_left front back y d)
    (λ d. ⊎_elim (λ e. absurd (apart e)) (λ b. Contains-append_right front back y b) (Contains-cons x back y d))
    (Contains-append_cases front (x ∷ back) y c)

-- a list whose elements are sent to different elements of another is no longer than that one
pub length-le_from_once : {A B : Type 0} (f : A → B) (xs : List A) (ys : List B) → AreDistinct xs → ((a b : A) → Contains xs a → Contains xs b → f a ≡ f b → a ≡ b) → ((x : A) → Contains xs x → Contains ys (f x)) → length xs ≤ length ys
length-le_from_once f [] ys d once there = omega arith
length-le_from_once {A} {B} f (x ∷ xs) ys d once there =
    let here = Contains-here x xs in
    let s = split ys (f x) (there x here) in
    let rest = s.0 ++ s.1 in
    let fewer =
    length-le_from_once f xs rest (distinct-tail x xs d)
    (λ a b c e. once a b (Contains-later x xs a c) (Contains-later x xs b e))
    (λ y c.
    without s.0 s.1 (f x) (f y)
    (λ same. distinct-head x xs d y c (once x y here (Contains-later x xs y c) same))
    (subst (λ (zs : List B). Contains zs (f y)) s.2 (there y (Contains-later x xs y c)))) in
    let all = ap length s.2 ∙ length-append s.0 (f x ∷ s.1) in
    let both = length-append s.0 s.1 in
    let one : length (f x ∷ s.1) ≡ suc (length s.1) = refl in
    let whole : length (x ∷ xs) ≡ suc (length xs) = refl in
    omega arith

-- elements that are sent to those of a list
pub record Chosen {A B : Type 0} (f : A → B) (P : A → Type 0) (ys : List B) : Type 0 where
  pub items : List A
  pub many : length items ≡ length ys
  pub distinct : AreDistinct items
  pub each : (x : A) → Contains items x → P x
  pub sent : (x : A) → Contains items x → Contains ys (f x)

pub choose : {A B : Type 0} (f : A → B) (P : A → Type 0) (ys : List B) → AreDistinct ys → ((y : B) → Contains ys y → (x : A) × P x × (f x ≡ y)) → Chosen f P ys
choose f P [] d from = record {
  items = [];
  many = refl;
  distinct = λ i j e below within. absurd (omega arith);
  each = λ x c. let none = c.1 in absurd (omega arith);
  sent = λ x c. let none = c.1 in absurd (omega arith);
}
choose {A} {B} f P (y ∷ ys) d from =
    let first = from y (Contains-here y ys) in
    let others = choose f P ys (distinct-tail y ys d) (λ z c. from z (Contains-later y ys z c)) in
    record {
      items = first.0 ∷ others.items;
      many = ap suc others.many;
      distinct = distinct-cons first.0 others.items (λ x c e. distinct-head y ys d (f x) (others.sent x c) (sym first.2 ∙ ap f e)) others.distinct;
      each = λ x c. ⊎_elim (λ e. subst P e first.1) (λ b. others.each x b) (Contains-cons first.0 others.items x c);
      sent = λ x c. ⊎_elim (λ e. subst (λ (z : A). Contains (y ∷ ys) (f z)) e (subst (λ (w : B). Contains (y ∷ ys) w) (sym first.2) (Contains-here y ys))) (λ b. Contains-later y ys (f x) (others.sent x b)) (Contains-cons first.0 others.items x c);
    }
