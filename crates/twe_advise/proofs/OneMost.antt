-- The pairs of declared effects that held most are one list.
use Rattle.std.proofs.Common.{◌≡◌, ◌≤◌, ◌⊎◌, inl, inr, ℕ, zero, suc, List, [], ◌∷◌, length, refl, sym, ap, ◌∙◌, subst, arith}
use Rattle.std.specs.List.{AllPairs, Contains}
use Rattle.std.proofs.lemmas.List.Elements.{All-contains}
use Rattle.machine_state.specs.declared.state.TaskRow.{TaskRow}
use Rattle.held_span.specs.MostHeld.{HasHeld, HeldMore, HeldMost, IsDeclaredBefore, IsLower}
use Rattle.held_span.specs.declared.hold.Hold.{Hold}
use Rattle.held_span.specs.declared.pair.DeclaredEffect.{DeclaredEffect}
use Rattle.held_span.specs.declared.pair.EffectPair.{EffectPair}
use Rattle.held_span.specs.declared.pair.HeldPair.{HeldPair}
use Rattle.span_profile.proofs.Lists.{contains_cases, contains_first, contains_later, contains_none}

-- of two effects, two pairs and two totals one at most comes first

declared_once : (a b : DeclaredEffect) → IsDeclaredBefore a b → IsDeclaredBefore b a → ⊥
declared_once a b (inl less) (inl more) = omega (arith, less, more)
declared_once a b (inl less) (inr same) = let e = same.0 in omega (arith, less, e)
declared_once a b (inr same) (inl more) = let e = same.0 in omega (arith, more, e)
declared_once a b (inr same) (inr also) = let x = same.1 in let y = also.1 in omega (arith, x, y)

never_before : (a b : DeclaredEffect) → a ≡ b → IsDeclaredBefore a b → ⊥
never_before a b same (inl less) = let e = ap (λ (d : DeclaredEffect). d.decl) same in omega (arith, less, e)
never_before a b same (inr lower) = let e = ap (λ (d : DeclaredEffect). d.effect) same in let l = lower.1 in omega (arith, l, e)

lower_once : (a b : EffectPair) → IsLower a b → IsLower b a → ⊥
lower_once a b (inl first) (inl second) = declared_once a.holder b.holder first second
lower_once a b (inl first) (inr same) = never_before a.holder b.holder (sym same.0) first
lower_once a b (inr same) (inl second) = never_before b.holder a.holder (sym same.0) second
lower_once a b (inr same) (inr also) = declared_once a.held b.held same.1 also.1

pub more_once : (a b : HeldPair) → HeldMore a b → HeldMore b a → ⊥
more_once a b (inl less) (inl more) = omega (arith, less, more)
more_once a b (inl less) (inr same) = let e = same.0 in omega (arith, less, e)
more_once a b (inr same) (inl more) = let e = same.0 in omega (arith, more, e)
more_once a b (inr same) (inr also) = lower_once a.pair b.pair same.1 also.1

-- Two ordered lists of which each leaves out only what comes after so many others are one.
module _ {X : Type 0} (R : X → X → Type 0) (once : (a b : X) → R a b → R b a → ⊥) where
  -- what is in the first list is in the second, or the second is full of what comes before it
  abbrev LeavesLater : ℕ → List X → List X → Type 0
  LeavesLater most xs ys = (x : X) → Contains xs x → Contains ys x ⊎ ((length ys ≡ most) × ((y : X) → Contains ys y → R y x))

  abbrev Ordered : List X → Type 0
  Ordered [] = Unit {0}
  Ordered (x ∷ xs) = ((y : X) → Contains xs y → R x y) × Ordered xs

  before_or_same : (most : ℕ) (x y : X) (xs ys : List X) → Ordered (y ∷ ys) → LeavesLater most (x ∷ xs) (y ∷ ys) → (y ≡ x) ⊎ R y x
  before_or_same most x y xs ys ordered leaves = elim (leaves x (contains_first x xs)) [
    | inl has ↦ elim (contains_cases y x ys has) [ inl same ↦ inl same | inr later ↦ inr (ordered.0 x later) ]
    | inr full ↦ inr (full.1 y (contains_first y ys))
  ]

  one_head : (most : ℕ) (x y : X) (xs ys : List X) → Ordered (x ∷ xs) → Ordered (y ∷ ys) → LeavesLater most (x ∷ xs) (y ∷ ys) → LeavesLater most (y ∷ ys) (x ∷ xs) → x ≡ y
  one_head most x y xs ys a b into back = elim (before_or_same most x y xs ys b into) [
    | inl same ↦ sym same
    | inr less ↦ elim (before_or_same most y x ys xs a back) [ inl same ↦ same | inr more ↦ absurd (once y x less more) ]
  ]

  rest_leaves : (most : ℕ) (x y : X) (xs ys : List X) → x ≡ y → Ordered (x ∷ xs) → LeavesLater (suc most) (x ∷ xs) (y ∷ ys) → LeavesLater most xs ys
  rest_leaves most x y xs ys same ordered leaves z has = elim (leaves z (contains_later x z xs has)) [
    | inl found ↦ elim (contains_cases y z ys found) [
      | inl first ↦
          let before = ordered.0 z has in
          let itself : R x x = subst (R x) (sym (same ∙ first)) before in
          absurd (once x x itself itself)
      | inr later ↦ inl later
    ]
    | inr full ↦ inr ((let many = full.0 in omega (arith, many)), λ w there. full.1 w (contains_later y w ys there))
  ]

  one_ordered : (most : ℕ) (xs ys : List X) → length xs ≤ most → length ys ≤ most → Ordered xs → Ordered ys → LeavesLater most xs ys → LeavesLater most ys xs → xs ≡ ys
  one_ordered most [] [] few also a b into back = refl
  one_ordered most [] (y ∷ ys) few also a b into back = elim (back y (contains_first y ys)) [
    | inl has ↦ absurd (contains_none y has)
    | inr full ↦ (let none = full.0 in absurd (omega (arith, none, also)))
  ]
  one_ordered most (x ∷ xs) [] few also a b into back = elim (into x (contains_first x xs)) [
    | inl has ↦ absurd (contains_none x has)
    | inr full ↦ (let none = full.0 in absurd (omega (arith, none, few)))
  ]
  one_ordered zero (x ∷ xs) (y ∷ ys) few also a b into back = absurd (omega (arith, few))
  one_ordered (suc most) (x ∷ xs) (y ∷ ys) few also a b into back =
      let head = one_head (suc most) x y xs ys a b into back in
      let rest =
      one_ordered most xs ys (omega (arith, few)) (omega (arith, also)) a.1 b.1 (rest_leaves most x y xs ys head a into) (rest_leaves most y x ys xs (sym head) b back) in
      λ i. head i ∷ rest i

  -- pairs of a list, one before the other
  ordered_of : (xs : List X) → AllPairs R xs → Ordered xs
  ordered_of [] all = tt
  ordered_of (x ∷ xs) all = (
    λ y has. subst (R x) (has.2) (all 0 (suc has.0) y (omega arith) (let below = has.1 in omega (arith, below))),
    ordered_of xs (λ i j d less below. all (suc i) (suc j) d (omega (arith, less)) (omega (arith, below))),
  )

pub one_most : (rows : List TaskRow) (holds : List Hold) (pairs others : List HeldPair) → HeldMost rows holds pairs → HeldMost rows holds others → pairs ≡ others
one_most rows holds pairs others a b =
    one_ordered HeldMore more_once 3 pairs others a.few b.few (ordered_of HeldMore more_once pairs a.ordered) (ordered_of HeldMore more_once others b.ordered) (leaves pairs others a b) (leaves others pairs b a)
  where
    leaves : (xs ys : List HeldPair) → HeldMost rows holds xs → HeldMost rows holds ys → LeavesLater HeldMore more_once 3 xs ys
    leaves xs ys one two x has = elim (two.others x (All-contains (HasHeld rows holds) xs x one.each has)) [
      | inl found ↦ inl found
      | inr full ↦ inr (full.0, λ y there. All-contains (λ (pair : HeldPair). HeldMore pair x) ys y full.1 there)
    ]
