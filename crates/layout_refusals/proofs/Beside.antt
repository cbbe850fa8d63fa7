-- Places that stand side by side in two lists, each of which ascends.
use Rattle.std.proofs.Common.{◌≡◌, ◌⊎◌, ◌<◌, ◌==◌, ◌&&◌, ℕ, zero, suc, Bool, true, false, if◌then◌else◌, List, [], ◌∷◌, Some, length, inl, inr, refl, sym, ap, ◌∙◌, subst, arith}
use Rattle.std.specs.Prelude.{slice_get}
use Rattle.std.proofs.lemmas.Bool.{cond-true, cond-false}
use Rattle.std.proofs.lemmas.Bool.Decides.{nat_tests}
use Rattle.twe_base.specs.declared.place.Place.{Place}
use Rattle.twe_base.specs.Order.{IsEarlier}
use Rattle.twe_base.proofs.Members.{IsIn}

-- the one place stands in the one list where the other stands in the other
abbrev pub Beside : List Place → List Place → Place → Place → Type 0
Beside [] others place its = ⊥
Beside (first ∷ places) [] place its = ⊥
Beside (first ∷ places) (second ∷ others) place its = ((place ≡ first) × (its ≡ second)) ⊎ Beside places others place its

-- each place is earlier than all after it
abbrev pub Ascends : List Place → Type 0
Ascends [] = Unit {0}
Ascends (first ∷ places) = ((place : Place) → IsIn place places → IsEarlier first place) × Ascends places

pub not_both : (a b : Place) → IsEarlier a b → IsEarlier b a → ⊥
not_both a b (inl h) (inl k) = omega arith
not_both a b (inl h) (inr (e, k)) = omega arith
not_both a b (inr (e, h)) (inl k) = omega arith
not_both a b (inr (e, h)) (inr (f, k)) = omega arith

not_itself : (a b : Place) → IsEarlier a b → a ≡ b → ⊥
not_itself a b h same = not_both a b h (subst (λ (c : Place). IsEarlier b c) (sym same) (subst (λ (c : Place). IsEarlier c b) same h))

left-in : (places others : List Place) (place its : Place) → Beside places others place its → IsIn place places
left-in [] others place its h = absurd h
left-in (first ∷ places) [] place its h = absurd h
left-in (first ∷ places) (second ∷ others) place its (inl (here, there)) = inl here
left-in (first ∷ places) (second ∷ others) place its (inr h) = inr (left-in places others place its h)

pub turned : (places others : List Place) (place its : Place) → Beside places others place its → Beside others places its place
turned [] others place its h = absurd h
turned (first ∷ places) [] place its h = absurd h
turned (first ∷ places) (second ∷ others) place its (inl (here, there)) = inl (there, here)
turned (first ∷ places) (second ∷ others) place its (inr h) = inr (turned places others place its h)

right-in : (places others : List Place) (place its : Place) → Beside places others place its → IsIn its others
right-in places others place its h = left-in others places its place (turned places others place its h)

-- each place of the other list stands beside one of the first
pub has-beside : (places others : List Place) → length places ≡ length others → (its : Place) → IsIn its others → (place : Place) × Beside places others place its
has-beside places [] same its h = absurd h
has-beside [] (second ∷ others) same its h = absurd (omega arith)
has-beside (first ∷ places) (second ∷ others) same its (inl is) = (first, inl (refl, is))
has-beside (first ∷ places) (second ∷ others) same its (inr h) =
    let long : length places ≡ length others = omega arith in
    let found = has-beside places others long its h in
    (found.0, inr found.1)

-- places beside one another have one order
pub order-kept : (places others : List Place) → Ascends places → Ascends others → (p q r s : Place) → Beside places others p q → Beside places others r s
    → IsEarlier p r → IsEarlier q s
order-kept [] others a b p q r s h k before = absurd h
order-kept (first ∷ places) [] a b p q r s h k before = absurd h
order-kept (first ∷ places) (second ∷ others) a b p q r s (inl (here, there)) (inl (also, its)) before = absurd (not_itself p r before (here ∙ sym also))
order-kept (first ∷ places) (second ∷ others) a b p q r s (inl (here, there)) (inr k) before =
    subst (λ (c : Place). IsEarlier c s) (sym there) (b.0 s (right-in places others r s k))
order-kept (first ∷ places) (second ∷ others) a b p q r s (inr h) (inl (also, its)) before =
    absurd (not_both p r before (subst (λ (c : Place). IsEarlier c p) (sym also) (a.0 p (left-in places others p q h))))
order-kept (first ∷ places) (second ∷ others) a b p q r s (inr h) (inr k) before = order-kept places others a.1 b.1 p q r s h k before

pub one-beside : (places others : List Place) → Ascends places → (p q r s : Place) → Beside places others p q → Beside places others r s → p ≡ r → q ≡ s
one-beside [] others a p q r s h k same = absurd h
one-beside (first ∷ places) [] a p q r s h k same = absurd h
one-beside (first ∷ places) (second ∷ others) a p q r s (inl (here, there)) (inl (also, its)) same = there ∙ sym its
one-beside (first ∷ places) (second ∷ others) a p q r s (inl (here, there)) (inr k) same =
    absurd (not_itself first r (a.0 r (left-in places others r s k)) (sym here ∙ same))
one-beside (first ∷ places) (second ∷ others) a p q r s (inr h) (inl (also, its)) same =
    absurd (not_itself first p (a.0 p (left-in places others p q h)) (sym also ∙ sym same))
one-beside (first ∷ places) (second ∷ others) a p q r s (inr h) (inr k) same = one-beside places others a.1 p q r s h k same

-- the number at which both stand
pub number-of : (places others : List Place) (place its : Place) → Beside places others place its
    → (number : ℕ) × (slice_get places number ≡ Some place) × (slice_get others number ≡ Some its)
number-of [] others place its h = absurd h
number-of (first ∷ places) [] place its h = absurd h
number-of (first ∷ places) (second ∷ others) place its (inl (here, there)) = (zero, ap Some (sym here), ap Some (sym there))
number-of (first ∷ places) (second ∷ others) place its (inr h) = let found = number-of places others place its h in (suc found.0, found.1, found.2)

-- The place of one list that stands beside a place of the other; `past` for a place that is not there.

abbrev pub is_at : Place → Place → Bool
is_at a b = (a.line == b.line) && (a.col == b.col)

pub beside : List Place → List Place → Place → Place → Place
beside [] others past place = past
beside (first ∷ places) [] past place = past
beside (first ∷ places) (second ∷ others) past place = if is_at first place then second else beside places others past place

at_itself : (a b : Place) → b ≡ a → is_at a b ≡ true
at_itself a b same = subst (λ (c : Place). is_at a c ≡ true) (sym same) (both a.line a.col)
  where
    both : (m n : ℕ) → ((m == m) && (n == n)) ≡ true
    both m n = grind (arith, nat_tests)

not_at : (a b : Place) → IsEarlier a b → is_at a b ≡ false
not_at a b h = apart a.line a.col b.line b.col h
  where
    apart : (m n k l : ℕ) → (m < k) ⊎ ((m ≡ k) × (n < l)) → ((m == k) && (n == l)) ≡ false
    apart m n k l h = grind (arith, nat_tests)

pub beside-is : (places others : List Place) (past : Place) → Ascends places → (place its : Place) → Beside places others place its → beside places others past place ≡ its
unfolding beside
beside-is [] others past a place its h = absurd h
beside-is (first ∷ places) [] past a place its h = absurd h
beside-is (first ∷ places) (second ∷ others) past a place its (inl (here, there)) =
    cond-true (is_at first place) second (beside places others past place) (at_itself first place here) ∙ sym there
beside-is (first ∷ places) (second ∷ others) past a place its (inr h) =
    cond-false (is_at first place) second (beside places others past place) (not_at first place (a.0 place (left-in places others place its h)))
    ∙ beside-is places others past a.1 place its h

pub beside-in : (places others all : List Place) (past : Place) → IsIn past all → ((its : Place) → IsIn its others → IsIn its all) → (place : Place)
    → IsIn (beside places others past place) all
unfolding beside
beside-in [] others all past there among place = there
beside-in (first ∷ places) [] all past there among place = there
beside-in (first ∷ places) (second ∷ others) all past there among place =
    one_of (is_at first place) refl (among second (inl refl)) (beside-in places others all past there (λ its h. among its (inr h)) place)
  where
    one_of : (here : Bool) → is_at first place ≡ here → IsIn second all → IsIn (beside places others past place) all
        → IsIn (if is_at first place then second else beside places others past place) all
    one_of true here is more = subst (λ (p : Place). IsIn p all) (sym (cond-true (is_at first place) second (beside places others past place) here)) is
    one_of false here is more = subst (λ (p : Place). IsIn p all) (sym (cond-false (is_at first place) second (beside places others past place) here)) more
