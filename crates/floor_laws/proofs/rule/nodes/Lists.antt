-- Lists without repetitions, and lists from which an element was taken out.
use Rattle.std.proofs.Common.{◌≡◌, ◌+◌, ℕ, Bool, cond, List, [], ◌∷◌, refl, subst, inl, inr, ⊎_elim, ◌⊎◌, arith}
use Rattle.std.specs.Prelude.{count_by}
use Rattle.std.proofs.lemmas.List.Sums.{sum_by-cons}
use Rattle.floor_laws.specs.admission.admission_core.States.{IsAmong}
use Rattle.floor_laws.specs.rule.nodes.Fitting.{IsDistinct}
use Rattle.floor_laws.specs.rule.nodes.RecordSteps.{IsWithout}

module _ {X : Type 0} where
  -- the second list is the first without one occurrence of x
  pub data TakenOut (x : X) : List X → List X → Type 0 where
    here : (xs : List X) → TakenOut x (x ∷ xs) xs
    there : (y : X) (xs ys : List X) → TakenOut x xs ys → TakenOut x (y ∷ xs) (y ∷ ys)

  pub take_out : (x : X) (xs : List X) → IsAmong x xs → (ys : List X) × TakenOut x xs ys
  take_out x [] among = absurd among
  take_out x (y ∷ xs) (inl same) = (xs, subst (λ (z : X). TakenOut x (z ∷ xs) xs) same (here xs))
  take_out x (y ∷ xs) (inr among) = let rest = take_out x xs among in (y ∷ rest.0, there y xs rest.0 rest.1)

  pub still_among : {x : X} {xs ys : List X} → TakenOut x xs ys → (y : X) → IsAmong y ys → IsAmong y xs
  still_among (here xs) y among = inr among
  still_among (there z xs ys out) y (inl same) = inl same
  still_among (there z xs ys out) y (inr among) = inr (still_among out y among)

  pub was_among : {x : X} {xs ys : List X} → TakenOut x xs ys → (y : X) → IsAmong y xs → (y ≡ x) ⊎ IsAmong y ys
  was_among (here xs) y (inl same) = inl same
  was_among (here xs) y (inr among) = inr among
  was_among (there z xs ys out) y (inl same) = inr (inl same)
  was_among (there z xs ys out) y (inr among) =
      ⊎_elim (λ same. inl same) (λ rest. inr (inr rest)) (was_among out y among)

  pub taken_among : {x : X} {xs ys : List X} → TakenOut x xs ys → IsAmong x xs
  taken_among (here xs) = inl refl
  taken_among (there z xs ys out) = inr (taken_among out)

  -- in a list without repetitions x was there once
  pub taken_gone : {x : X} {xs ys : List X} → TakenOut x xs ys → IsDistinct xs → ¬ IsAmong x ys
  taken_gone (here xs) distinct among = distinct.0 among
  taken_gone {x} (there z xs ys out) distinct (inl same) = distinct.0 (subst (λ (w : X). IsAmong w xs) same (taken_among out))
  taken_gone (there z xs ys out) distinct (inr among) = taken_gone out distinct.1 among

  pub taken_distinct : {x : X} {xs ys : List X} → TakenOut x xs ys → IsDistinct xs → IsDistinct ys
  taken_distinct (here xs) distinct = distinct.1
  taken_distinct (there z xs ys out) distinct = (λ among. distinct.0 (still_among out z among), taken_distinct out distinct.1)

  pub taken_without : {x : X} {xs ys : List X} → TakenOut x xs ys → IsDistinct xs → IsWithout x xs ys
  taken_without {x} {xs} {ys} out distinct y = (
    λ among. (still_among out y among, λ same. taken_gone out distinct (subst (λ (w : X). IsAmong w ys) same among)),
    λ both. ⊎_elim (λ same. absurd (both.1 same)) (λ rest. rest) (was_among out y both.0),
  )

  pub count_cons : (test : X → Bool) (x : X) (xs : List X) → count_by test (x ∷ xs) ≡ cond {A = ℕ} (test x) 1 0 + count_by test xs
  count_cons test x xs = sum_by-cons (λ (y : X). cond {A = ℕ} (test y) 1 0) x xs

  pub taken_count : {x : X} {xs ys : List X} (test : X → Bool) → TakenOut x xs ys → count_by test xs ≡ cond {A = ℕ} (test x) 1 0 + count_by test ys
  taken_count {x} test (here xs) = count_cons test x xs
  taken_count {x} test (there z xs ys out) =
      let first = count_cons test z xs in
      let rest = taken_count test out in
      let second = count_cons test z ys in
      shuffle (cond {A = ℕ} (test z) 1 0) (cond {A = ℕ} (test x) 1 0) (count_by test xs) (count_by test ys) (count_by test (z ∷ xs)) (count_by test (z ∷ ys)) first rest second
    where
      shuffle : (a b m n more less : ℕ) → more ≡ a + m → m ≡ b + n → less ≡ a + n → more ≡ b + less
      shuffle a b m n more less first rest second = omega (arith, first, rest, second)
