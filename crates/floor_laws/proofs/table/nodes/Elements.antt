-- Elements of a list of which one was set, and its first elements.
use Rattle.std.proofs.Common.{◌≡◌, ◌≢◌, ◌⊎◌, ◌+◌, ◌<◌, ◌≤◌, ℕ, zero, suc, List, [], ◌∷◌, length, map, refl, sym, ap, ◌∙◌, inl, inr, ⊎_elim, arith}
use Rattle.std.specs.Prelude.{slice_set, take}
use Rattle.std.proofs.lemmas.Bool.{cases_eq}
use mathlib.Core.Option as core
use mathlib.Core.Option.{some-injective, some-ne-none}
use lib.ListN.{get_elem?}
use native.Mathlib.Decide.{dec_le}
use Rattle.floor_laws.specs.rule.Floors.{put}
use Rattle.floor_laws.proofs.rule.Puts.{put_else, put_here}
use Rattle.floor_laws.proofs.table.Elements.{at_else, at_here, at_within}

pub below_or : (n m : ℕ) → (n < m) ⊎ (m ≤ n)
below_or n m = by (dec_le m n)
  where
    by : Dec (m ≤ n) → (n < m) ⊎ (m ≤ n)
    by (yes past) = inr past
    by (no not) = inl (omega (arith, not))

module _ {A : Type 0} where
  pub beyond : (l : List A) (i : ℕ) → length l ≤ i → get_elem? l i ≡ core.none
  beyond [] i past = refl
  beyond (x ∷ l) zero past = absurd (omega (arith, past))
  beyond (x ∷ l) (suc i) past = beyond l i (omega (arith, past))

  pub at_some : (l : List A) (i : ℕ) → i < length l → (x : A) × (get_elem? l i ≡ core.some x)
  at_some [] i below = absurd (omega (arith, below))
  at_some (x ∷ l) zero below = (x, refl)
  at_some (x ∷ l) (suc i) below = at_some l i (omega (arith, below))

  -- the first n elements do not change if a later one is set
  pub take_set : (l : List A) (n i : ℕ) (x : A) → n ≤ i → take n (slice_set l i x) ≡ take n l
  take_set [] n i x past = refl
  take_set (y ∷ l) zero i x past = refl
  take_set (y ∷ l) (suc n) zero x past = absurd (omega (arith, past))
  take_set (y ∷ l) (suc n) (suc i) x past = ap (λ (t : List A). y ∷ t) (take_set l n i x (omega (arith, past)))

  -- elements of which a function makes the same
  pub map_set : {B : Type 0} (f : A → B) (l : List A) (i : ℕ) (a b : A) → get_elem? l i ≡ core.some a → f b ≡ f a → map f (slice_set l i b) ≡ map f l
  map_set f [] i a b at same = refl
  map_set f (x ∷ l) zero a b at same = let first : f b ≡ f x = same ∙ ap f (sym (some-injective x a at)) in λ k. first k ∷ map f l
  map_set {B} f (x ∷ l) (suc i) a b at same = ap (λ (t : List B). f x ∷ t) (map_set f l i a b at same)

  pub take_there : (l : List A) (n i : ℕ) → i < n → get_elem? (take n l) i ≡ get_elem? l i
  take_there l zero i low = absurd (omega (arith, low))
  take_there [] (suc n) i low = refl
  take_there (x ∷ l) (suc n) zero low = refl
  take_there (x ∷ l) (suc n) (suc i) low = take_there l n i (omega (arith, low))

  pub map_put : {B : Type 0} (f : A → B) (l : List A) (i : ℕ) (b : A) → map f (slice_set l i b) ≡ slice_set (map f l) i (f b)
  map_put f [] i b = refl
  map_put f (x ∷ l) zero b = refl
  map_put {B} f (x ∷ l) (suc i) b = ap (λ (t : List B). f x ∷ t) (map_put f l i b)

  pub take_map : {B : Type 0} (f : A → B) (n : ℕ) (l : List A) → take n (map f l) ≡ map f (take n l)
  take_map f zero l = refl
  take_map f (suc n) [] = refl
  take_map {B} f (suc n) (x ∷ l) = ap (λ (t : List B). f x ∷ t) (take_map f n l)

  pub map_length : {B : Type 0} (f : A → B) (l : List A) → length (map f l) ≡ length l
  map_length f [] = refl
  map_length f (x ∷ l) = ap suc (map_length f l)

  -- what a part of each element says, where one element was set that lies behind the first ones
  pub places_put : {X : Type 0} (part : core.Option A → X) (l : List A) (base i : ℕ) (x : A) → base + i < length l
      → ◌≡◌ {A = ℕ → X} (λ j. part (get_elem? (slice_set l (base + i) x) (base + j))) (put (λ (j : ℕ). part (get_elem? l (base + j))) i (part (core.some x)))
  places_put {X} part l base i x within = λ k j. at j k
    where
      was : ℕ → X
      was j = part (get_elem? l (base + j))

      at : (j : ℕ) → part (get_elem? (slice_set l (base + i) x) (base + j)) ≡ put was i (part (core.some x)) j
      at j =
          ⊎_elim
          (λ (same : j ≡ i).
          ap (λ (n : ℕ). part (get_elem? (slice_set l (base + i) x) (base + n))) same
          ∙ (ap part (at_within l (base + i) x within) ∙ (sym (put_here was i (part (core.some x))) ∙ ap (put was i (part (core.some x))) (sym same))))
          (λ (other : j ≢ i).
          ap part (at_else l (base + i) (base + j) x (λ same. other (omega (arith, same)))) ∙ sym (put_else was i j (part (core.some x)) other))
          (cases_eq j i)

  module _ {X : Type 0} (part : core.Option A → X) (l : List A) (id : ℕ) (v w : A) (at : get_elem? l id ≡ core.some v) where
    abbrev before : ℕ → X
    before j = part (get_elem? l j)

    element_put : (j : ℕ) → part (get_elem? (slice_set l id w) j) ≡ put before id (part (core.some w)) j
    element_put j =
        ⊎_elim
        (λ (same : j ≡ id).
        ap (λ (n : ℕ). part (get_elem? (slice_set l id w) n)) same
        ∙ (ap part (at_here l id v w at) ∙ (sym (put_here before id (part (core.some w))) ∙ ap (put before id (part (core.some w))) (sym same))))
        (λ (other : j ≢ id). ap part (at_else l id j w other) ∙ sym (put_else before id j (part (core.some w)) other))
        (cases_eq j id)

    -- a part that the new element changes
    pub elements_put : (new : X) → part (core.some w) ≡ new → ◌≡◌ {A = ℕ → X} (λ j. part (get_elem? (slice_set l id w) j)) (put (λ (j : ℕ). part (get_elem? l j)) id new)
    elements_put new is = λ k j. (element_put j ∙ ap (λ (x : X). put before id x j) is) k

    -- a part that it does not change
    pub elements_kept : part (core.some w) ≡ part (core.some v) → ◌≡◌ {A = ℕ → X} (λ j. part (get_elem? (slice_set l id w) j)) (λ j. part (get_elem? l j))
    elements_kept same = λ k j. (element_put j ∙ stays j) k
      where
        stays : (j : ℕ) → put before id (part (core.some w)) j ≡ before j
        stays j =
            ⊎_elim
            (λ (is : j ≡ id).
            ap (put before id (part (core.some w))) is ∙ (put_here before id (part (core.some w)) ∙ (same ∙ (ap part (sym at) ∙ ap before (sym is)))))
            (λ (other : j ≢ id). put_else before id j (part (core.some w)) other)
            (cases_eq j id)
