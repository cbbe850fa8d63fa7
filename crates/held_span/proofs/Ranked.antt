-- Pairs by their times: three may be kept on the way, and the order is that of pairs that held more.
use Rattle.std.proofs.Common.{append-nil, ◌≡◌, ◌∙◌, ◌⊎◌, inl, inr, ◌+◌, ◌<◌, ◌≤◌, ◌++◌, ◌∷◌, [], ℕ, zero, suc, Bool, true, false, List, length, take, refl, sym, ap, subst, arith}
use Rattle.std.specs.Prelude.{All, AllPairs, Contains, cond, fold, insert, nat_lt, not}
use Rattle.std.specs.List.Sorted.{IsPermutation}
use Rattle.std.proofs.lemmas.Bool.{cases_lt, ltb-true}
use Rattle.std.proofs.lemmas.Bool.Decides.{nat_tests}
use Rattle.std.proofs.lemmas.List.Elements.{All-contains, All-cons, All-head, All-nil, All-tail, All-take, All-weaker}
use Rattle.std.proofs.lemmas.List.Kept.{AllPairs-cons}
use Rattle.std.proofs.lemmas.List.Sorted.{All-permutation, IsPermutation-append_left, IsPermutation-insert, IsPermutation-middle, IsPermutation-refl, IsPermutation-trans}
use Rattle.held_span.specs.MostHeld.{HeldMore, IsLower}
use Rattle.held_span.specs.inner.Ranks.{place_of, ranked, with_pair}
use Rattle.held_span.specs.declared.pair.HeldPair.{HeldPair}

-- where a pair goes
with_first : (x p : HeldPair) (xs : List HeldPair) (b : Bool) → nat_lt x.time p.time ≡ b
    → with_pair (x ∷ xs) p ≡ cond b (p ∷ x ∷ xs) (x ∷ with_pair xs p)
with_first x p xs true is = ap (λ (c : Bool). insert (x ∷ xs) (cond (not c) (1 + place_of xs p.time) 0) p) is
with_first x p xs false is =
    let more : 1 + place_of xs p.time ≡ suc (place_of xs p.time) = omega arith in
    ap (λ (c : Bool). insert (x ∷ xs) (cond (not c) (1 + place_of xs p.time) 0) p) is ∙ ap (λ (n : ℕ). insert (x ∷ xs) n p) more

-- ---- the first ones may be kept on the way

-- the first of the first ones
first_of_first : (n : ℕ) (x : HeldPair) (xs : List HeldPair) → take n (x ∷ take n xs) ≡ take n (x ∷ xs)
first_of_first zero x xs = refl
first_of_first (suc n) x [] = refl
first_of_first (suc n) x (y ∷ ys) = ap (λ (l : List HeldPair). x ∷ l) (first_of_first n y ys)

kept_by : (n : ℕ) (x p : HeldPair) (xs : List HeldPair) (b : Bool) → nat_lt x.time p.time ≡ b
    → take n (with_pair (take n xs) p) ≡ take n (with_pair xs p)
    → take (suc n) (with_pair (x ∷ take n xs) p) ≡ take (suc n) (with_pair (x ∷ xs) p)
kept_by n x p xs true is rest =
    ap (take (suc n)) (with_first x p (take n xs) true is)
    ∙ ap (λ (l : List HeldPair). p ∷ l) (first_of_first n x xs)
    ∙ sym (ap (take (suc n)) (with_first x p xs true is))
kept_by n x p xs false is rest =
    ap (take (suc n)) (with_first x p (take n xs) false is)
    ∙ ap (λ (l : List HeldPair). x ∷ l) rest
    ∙ sym (ap (take (suc n)) (with_first x p xs false is))

-- a pair is put among the first ones as among all
pub first_with : (n : ℕ) (p : HeldPair) (xs : List HeldPair) → take n (with_pair (take n xs) p) ≡ take n (with_pair xs p)
first_with zero p xs = refl
first_with (suc n) p [] = refl
first_with (suc n) p (x ∷ xs) = kept_by n x p xs (nat_lt x.time p.time) refl (first_with n p xs)

-- ---- the order

-- each comes before all that follow
abbrev InOrder : (HeldPair → HeldPair → Type 0) → List HeldPair → Type 0
InOrder Before [] = Unit {0}
InOrder Before (x ∷ xs) = All (Before x) xs × InOrder Before xs

-- the first pair is lower
abbrev pub LowerPair : HeldPair → HeldPair → Type 0
LowerPair a b = IsLower a.pair b.pair

-- pairs in the order of their numbers
abbrev pub ByNumbers : List HeldPair → Type 0
ByNumbers = InOrder LowerPair

-- pairs that held more first
abbrev pub ByTimes : List HeldPair → Type 0
ByTimes = InOrder HeldMore

longer_than : (x y p : HeldPair) → x.time < p.time → HeldMore x y → HeldMore p y
longer_than x y p longer (inl shorter) = inl (omega arith)
longer_than x y p longer (inr same) =
    let time : x.time ≡ y.time = same.0 in inl (omega arith)

not_longer : (x p : HeldPair) → nat_lt x.time p.time ≡ false → LowerPair x p → HeldMore x p
not_longer x p shorter lower = by_order (cases_lt p.time x.time) where
  by_order : (p.time < x.time) ⊎ (x.time ≤ p.time) → HeldMore x p
  by_order (inl less) = inl less
  by_order (inr no_less) = inr (grind (arith, nat_tests), lower)

is_permutation : (xs : List HeldPair) (p : HeldPair) → IsPermutation (p ∷ xs) (with_pair xs p)
is_permutation xs p = IsPermutation-insert xs (place_of xs p.time) p

with_by : (x : HeldPair) (xs : List HeldPair) (p : HeldPair) → ByTimes (x ∷ xs) → All (λ y. LowerPair y p) (x ∷ xs)
    → ByTimes (with_pair xs p) → (b : Bool) → nat_lt x.time p.time ≡ b → ByTimes (with_pair (x ∷ xs) p)
with_by x xs p ordered lower rest true is =
    let longer = ltb-true x.time p.time is in
    subst ByTimes (sym (with_first x p xs true is)) (
      All-cons (HeldMore p) x xs (inl longer) (All-weaker (HeldMore x) (HeldMore p) (λ y more. longer_than x y p longer more) xs ordered.0),
      ordered,
    )
with_by x xs p ordered lower rest false is =
    let more = not_longer x p is (All-head (λ y. LowerPair y p) x xs lower) in
    subst ByTimes (sym (with_first x p xs false is)) (
      All-permutation (HeldMore x) (p ∷ xs) (with_pair xs p) (is_permutation xs p) (All-cons (HeldMore x) p xs more ordered.0),
      rest,
    )

-- a pair that is above all others is put in its place
with_in_order : (xs : List HeldPair) (p : HeldPair) → ByTimes xs → All (λ x. LowerPair x p) xs → ByTimes (with_pair xs p)
with_in_order [] p ordered lower = (All-nil (HeldMore p), tt)
with_in_order (x ∷ xs) p ordered lower =
    with_by x xs p ordered lower (with_in_order xs p ordered.1 (All-tail (λ y. LowerPair y p) x xs lower)) (nat_lt x.time p.time) refl

-- pairs in the order of their numbers are put among others that are lower
ranked_from : (done left : List HeldPair) → ByTimes done → All (λ x. All (LowerPair x) left) done → ByNumbers left
    → ByTimes (fold with_pair done left) × IsPermutation (done ++ left) (fold with_pair done left)
ranked_from done [] ordered lower numbers =
    (ordered, subst (λ l. IsPermutation l done) (sym (append-nil done)) (IsPermutation-refl done))
ranked_from done (p ∷ left) ordered lower numbers =
    let moved = is_permutation done p in
    let rest =
    ranked_from (with_pair done p) left
    (with_in_order done p ordered (All-weaker (λ x. All (LowerPair x) (p ∷ left)) (λ x. LowerPair x p) (λ x all. All-head (LowerPair x) p left all) done lower))
    (All-permutation (λ x. All (LowerPair x) left) (p ∷ done) (with_pair done p) moved
    (All-cons (λ x. All (LowerPair x) left) p done numbers.0
    (All-weaker (λ x. All (LowerPair x) (p ∷ left)) (λ x. All (LowerPair x) left) (λ x all. All-tail (LowerPair x) p left all) done lower)))
    numbers.1 in (
      rest.0,
      IsPermutation-trans (done ++ p ∷ left) ((p ∷ done) ++ left) (fold with_pair (with_pair done p) left) (IsPermutation-middle done p left)
          (IsPermutation-trans ((p ∷ done) ++ left) (with_pair done p ++ left) (fold with_pair (with_pair done p) left)
          (IsPermutation-append_left left (p ∷ done) (with_pair done p) moved) rest.1),
    )

pub ranked_in_order : (pairs : List HeldPair) → ByNumbers pairs → ByTimes (ranked pairs)
ranked_in_order pairs numbers = (ranked_from [] pairs tt (All-nil (λ x. All (LowerPair x) pairs)) numbers).0

pub ranked_has_all : (pairs : List HeldPair) → ByNumbers pairs → IsPermutation pairs (ranked pairs)
ranked_has_all pairs numbers = (ranked_from [] pairs tt (All-nil (λ x. All (LowerPair x) pairs)) numbers).1

-- ---- the first ones

pub first_in_order : (n : ℕ) (xs : List HeldPair) → ByTimes xs → AllPairs HeldMore (take n xs)
first_in_order zero xs ordered = λ i j d below there. absurd (omega arith)
first_in_order (suc n) [] ordered = λ i j d below there. absurd (omega arith)
first_in_order (suc n) (x ∷ xs) ordered =
    AllPairs-cons HeldMore x (take n xs) (All-take (HeldMore x) n xs ordered.0) (first_in_order n xs ordered.1)

-- one of the others comes after the first ones, which are as many as were asked for
abbrev pub IsFirstOrLater : ℕ → List HeldPair → HeldPair → Type 0
IsFirstOrLater n xs y = Contains (take n xs) y ⊎ ((length (take n xs) ≡ n) × All (λ x. HeldMore x y) (take n xs))

later : (n : ℕ) (x : HeldPair) (xs : List HeldPair) (y : HeldPair) → HeldMore x y → IsFirstOrLater n xs y → IsFirstOrLater (suc n) (x ∷ xs) y
later n x xs y more (inl there) = inl (suc there.0, omega (arith, there.1), there.2)
later n x xs y more (inr after) = inr (ap suc after.0, All-cons (λ z. HeldMore z y) x (take n xs) more after.1)

pub first_or_later : (n : ℕ) (xs : List HeldPair) (y : HeldPair) → ByTimes xs → Contains xs y → IsFirstOrLater n xs y
first_or_later zero xs y ordered there = inr (refl, All-nil (λ z. HeldMore z y))
first_or_later (suc n) [] y ordered there = absurd (omega (arith, there.1))
first_or_later (suc n) (x ∷ xs) y ordered (zero, below, is) = inl (zero, omega arith, is)
first_or_later (suc n) (x ∷ xs) y ordered (suc k, below, is) =
    let there : Contains xs y = (k, omega arith, is) in
    later n x xs y (All-contains (HeldMore x) xs y ordered.0 there) (first_or_later n xs y ordered.1 there)
