-- What the two tests on elements say of the concrete elements that they stand against.
use Rattle.std.proofs.Common.{◌≡◌, ℕ, ℤ, pos, ◌+ℤ◌, Bool, true, false, refl, sym, ap, ◌∙◌, subst, arith, eqb-true, eq-eqb, ne_eqb, int_eq}
use Rattle.std.proofs.lemmas.Bool.{false≢true, eqb-false, not-false, not_from_true, false_from_ne_true}
use Rattle.std.proofs.lemmas.Bool.Decides.{Decides-int_eq, not_from_Decides}
use Rattle.std.proofs.lemmas.Int.{ints}
use Rattle.region_paths.specs.declared.elements.Elem.{Elem}
use Rattle.region_paths.specs.declared.elements.Elem.TheVariants.{Name, Index, Var, AnyIndex}
use Rattle.region_paths.specs.Concrete.{ConcreteElem, region, number, elem_stands}
use Rattle.region_paths.specs.Inside.{within}
use Rattle.region_paths.specs.Apart.{clash}
use Rattle.region_paths.specs.Filled.{Valuation, elem_under}

abbrev pub is_var : Elem → Bool
is_var (Var k) = true
is_var _ = false

int_eq-refl : (z : ℤ) → int_eq z z ≡ true
int_eq-refl z = (Decides-int_eq z z).1 refl

-- what an element stands against, an equal one stands against
stands_alike : (e f : Elem) (c : ConcreteElem) → e ≡ f → elem_stands e c ≡ true → elem_stands f c ≡ true
stands_alike e f c same s = let P : Elem → Type 0 = λ g. elem_stands g c ≡ true in subst P same s

-- an index under a valuation stands against a number
any_stands : (i : ℤ) (c : ConcreteElem) → elem_stands (Index i) c ≡ true → elem_stands AnyIndex c ≡ true
any_stands i (region n) s = s
any_stands i (number z) s = refl

-- what an element under a valuation stands against, each element that it is within stands against
pub within-stands : (v : Valuation) (e f : Elem) (c : ConcreteElem) → within e f ≡ true → elem_stands (elem_under v e) c ≡ true → elem_stands (elem_under v f) c ≡ true
within-stands v (Name n) (Name m) c h s = stands_alike _ _ c (ap Name (eqb-true n m h)) s
within-stands v (Index i) (Index j) c h s = stands_alike _ _ c (ap Index ((Decides-int_eq i j).0 h)) s
within-stands v (Var k) (Var l) c h s = stands_alike _ _ c (ap (λ x. Index (v x)) (eqb-true k l h)) s
within-stands v (Index i) AnyIndex c h s = any_stands i c s
within-stands v (Var k) AnyIndex c h s = any_stands (v k) c s
within-stands v AnyIndex AnyIndex c h s = s
within-stands v (Name n) (Index j) c h s = absurd (false≢true h)
within-stands v (Name n) (Var j) c h s = absurd (false≢true h)
within-stands v (Name n) AnyIndex c h s = absurd (false≢true h)
within-stands v (Index n) (Name j) c h s = absurd (false≢true h)
within-stands v (Index n) (Var j) c h s = absurd (false≢true h)
within-stands v (Var n) (Name j) c h s = absurd (false≢true h)
within-stands v (Var n) (Index j) c h s = absurd (false≢true h)
within-stands v AnyIndex (Name j) c h s = absurd (false≢true h)
within-stands v AnyIndex (Index j) c h s = absurd (false≢true h)
within-stands v AnyIndex (Var j) c h s = absurd (false≢true h)

name_is : (n m : ℕ) → elem_stands (Name n) (region m) ≡ true → n ≡ m
name_is n m s = eqb-true n m s

-- two elements that clash stand against no concrete element in common, under any valuation
pub clash-stands : (v : Valuation) (e f : Elem) (c : ConcreteElem) → clash e f ≡ true → elem_stands (elem_under v e) c ≡ true → elem_stands (elem_under v f) c ≡ true → ⊥
clash-stands v (Name n) (Name m) (region k) h s t =
    false≢true (sym (not_from_true _ (eq-eqb n m (eqb-true n k s ∙ sym (eqb-true m k t)))) ∙ h)
clash-stands v (Name n) (Name m) (number z) h s t = false≢true s
clash-stands v (Name n) (Index j) (region k) h s t = false≢true t
clash-stands v (Name n) (Index j) (number z) h s t = false≢true s
clash-stands v (Name n) (Var j) (region k) h s t = false≢true t
clash-stands v (Name n) (Var j) (number z) h s t = false≢true s
clash-stands v (Name n) AnyIndex (region k) h s t = false≢true t
clash-stands v (Name n) AnyIndex (number z) h s t = false≢true s
clash-stands v (Index j) (Name n) (region k) h s t = false≢true s
clash-stands v (Index j) (Name n) (number z) h s t = false≢true t
clash-stands v (Var j) (Name n) (region k) h s t = false≢true s
clash-stands v (Var j) (Name n) (number z) h s t = false≢true t
clash-stands v AnyIndex (Name n) (region k) h s t = false≢true s
clash-stands v AnyIndex (Name n) (number z) h s t = false≢true t
clash-stands v (Index i) (Index j) (number z) h s t =
    false≢true (sym (not_from_true _ ((Decides-int_eq i j).1 ((Decides-int_eq i z).0 s ∙ sym ((Decides-int_eq j z).0 t)))) ∙ h)
clash-stands v (Index i) (Index j) (region n) h s t = false≢true s
clash-stands v (Index i) (Var j) c h s t = false≢true h
clash-stands v (Index i) AnyIndex c h s t = false≢true h
clash-stands v (Var i) (Index j) c h s t = false≢true h
clash-stands v (Var i) (Var j) c h s t = false≢true h
clash-stands v (Var i) AnyIndex c h s t = false≢true h
clash-stands v AnyIndex (Index j) c h s t = false≢true h
clash-stands v AnyIndex (Var j) c h s t = false≢true h
clash-stands v AnyIndex AnyIndex c h s t = false≢true h

-- a concrete element that an element without a variable stands against
abbrev pub example : Elem → ConcreteElem
example (Name n) = region n
example (Index i) = number i
example (Var k) = number (pos 0)
example AnyIndex = number (pos 0)

pub example-stands : (e : Elem) → is_var e ≡ false → elem_stands e (example e) ≡ true
example-stands (Name n) h = eq-eqb n n refl
example-stands (Index i) h = int_eq-refl i
example-stands (Var k) h = absurd (false≢true (sym h))
example-stands AnyIndex h = refl

-- a concrete element that an element does not stand against
abbrev pub stranger : Elem → ConcreteElem
stranger (Name n) = number (pos 0)
stranger (Index i) = region 0
stranger (Var k) = region 0
stranger AnyIndex = region 0

pub stranger-stands : (e : Elem) → elem_stands e (stranger e) ≡ false
stranger-stands (Name n) = refl
stranger-stands (Index i) = refl
stranger-stands (Var k) = refl
stranger-stands AnyIndex = refl

-- a concrete element that the first element stands against, and the second does not where the first isn't within it
abbrev pub escape : Elem → Elem → ConcreteElem
escape AnyIndex (Index i) = number (i +ℤ pos 1)
escape e f = example e

next_differs : (i : ℤ) → int_eq i (i +ℤ pos 1) ≡ false
next_differs i =
    false_from_ne_true _ (λ e. let same : i ≡ (i +ℤ pos 1) = (Decides-int_eq i (i +ℤ pos 1)).0 e in absurd (omega (arith, ints)))

pub escape-stands : (e f : Elem) → is_var e ≡ false → elem_stands e (escape e f) ≡ true
escape-stands AnyIndex (Index i) h = refl
escape-stands AnyIndex (Name n) h = refl
escape-stands AnyIndex (Var k) h = refl
escape-stands AnyIndex AnyIndex h = refl
escape-stands (Name n) f h = eq-eqb n n refl
escape-stands (Index i) f h = int_eq-refl i
escape-stands (Var k) f h = absurd (false≢true (sym h))

pub escape-escapes : (e f : Elem) → is_var e ≡ false → within e f ≡ false → elem_stands f (escape e f) ≡ false
escape-escapes (Name n) (Name m) h w = ne_eqb m n (λ e. eqb-false n m w (sym e))
escape-escapes (Name n) (Index i) h w = refl
escape-escapes (Name n) (Var k) h w = refl
escape-escapes (Name n) AnyIndex h w = refl
escape-escapes (Index i) (Name n) h w = refl
escape-escapes (Index i) (Index j) h w =
    false_from_ne_true _ (λ e. not_from_Decides _ (Decides-int_eq i j) w (sym ((Decides-int_eq j i).0 e)))
escape-escapes (Index i) (Var k) h w = refl
escape-escapes (Index i) AnyIndex h w = absurd (false≢true (sym w))
escape-escapes (Var k) f h w = absurd (false≢true (sym h))
escape-escapes AnyIndex (Name n) h w = refl
escape-escapes AnyIndex (Index i) h w = next_differs i
escape-escapes AnyIndex (Var k) h w = refl
escape-escapes AnyIndex AnyIndex h w = absurd (false≢true (sym w))

-- a concrete element that both stand against where they do not clash
abbrev pub common : Elem → Elem → ConcreteElem
common AnyIndex f = example f
common e f = example e

pub common-stands-first : (e f : Elem) → is_var e ≡ false → is_var f ≡ false → clash e f ≡ false → elem_stands e (common e f) ≡ true
common-stands-first AnyIndex (Name n) h k w = absurd (false≢true (sym w))
common-stands-first AnyIndex (Index i) h k w = refl
common-stands-first AnyIndex (Var i) h k w = refl
common-stands-first AnyIndex AnyIndex h k w = refl
common-stands-first (Name n) f h k w = example-stands (Name n) h
common-stands-first (Index i) f h k w = example-stands (Index i) h
common-stands-first (Var i) f h k w = absurd (false≢true (sym h))

pub common-stands-second : (e f : Elem) → is_var e ≡ false → is_var f ≡ false → clash e f ≡ false → elem_stands f (common e f) ≡ true
common-stands-second AnyIndex f h k w = example-stands f k
common-stands-second (Name n) (Name m) h k w = eq-eqb m n (sym (eqb-true n m (not-false _ w)))
common-stands-second (Name n) (Index i) h k w = absurd (false≢true (sym w))
common-stands-second (Name n) (Var i) h k w = absurd (false≢true (sym w))
common-stands-second (Name n) AnyIndex h k w = absurd (false≢true (sym w))
common-stands-second (Index i) (Name n) h k w = absurd (false≢true (sym w))
common-stands-second (Index i) (Index j) h k w = (Decides-int_eq j i).1 (sym ((Decides-int_eq i j).0 (not-false _ w)))
common-stands-second (Index i) (Var j) h k w = absurd (false≢true (sym k))
common-stands-second (Index i) AnyIndex h k w = refl
common-stands-second (Var i) f h k w = absurd (false≢true (sym h))
