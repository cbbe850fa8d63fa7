-- What steps make of a column stands there wherever its equalities hold, but for an index 0.
use Rattle.std.proofs.Common.{◌≡◌, ℤ, pos, Bool, true, false, List, [], ◌∷◌, map, refl, sym, ap, ◌∙◌, inl, inr}
use Rattle.std.specs.Prelude.{◌||◌, Option, None, Some}
use Rattle.std.proofs.lemmas.Bool.{false≢true, and_parts, and_from, cases_Bool}
use Rattle.std.proofs.lemmas.Bool.Decides.{Decides-int_eq}
use Rattle.region_paths.specs.declared.elements.Elem.{Elem}
use Rattle.region_paths.specs.declared.elements.Elem.TheVariants.{Name, Index, Var, AnyIndex}
use Rattle.region_paths.specs.Concrete.{ConcreteElem, ConcretePath, elem_stands}
use Rattle.region_paths.specs.Filled.{Valuation}
use Rattle.effect_meeting.specs.declared.equality.Equality.{Equality}
use Rattle.effect_meeting.specs.declared.equality.Term.{Term}
use Rattle.effect_meeting.specs.declared.equality.Term.TheVariants.{Literal, First, Second}
use Rattle.effect_meeting.specs.Equalities.{term_value}
use Rattle.effect_meeting.specs.Solving.{after_steps, is_literal}
use Rattle.effect_meeting.specs.Solutions.{first_by, plain_value, second_by, solved_value}
use Rattle.effect_meeting.specs.inner.Aligned.{all_stand, one_stands, one_under}
use Rattle.effect_meeting.specs.inner.Columns.{all_near, columns, is_near, solid_or, solved_by}

or-right : (a b : Bool) → b ≡ true → (a || b) ≡ true
or-right true b h = refl
or-right false b h = h

or-left : (a b : Bool) → a ≡ true → (a || b) ≡ true
or-left true b h = refl
or-left false b h = absurd (false≢true h)

zero-near : (c : ConcreteElem) (i : ℤ) → i ≡ pos 0 → is_near (Index i) c ≡ true
zero-near c i h = or-left _ _ ((Decides-int_eq i (pos 0)).1 h)

open-zero : (t : Term) → is_literal t ≡ false → plain_value t ≡ pos 0
open-zero (Literal i) h = absurd (false≢true (sym h))
open-zero (First k) h = refl
open-zero (Second k) h = refl

-- the values are those that the steps force
abbrev pub IsForced : Valuation → Valuation → List Equality → Type 0
IsForced v w steps = (t : Term) → is_literal (after_steps steps t) ≡ true → term_value v w t ≡ solved_value steps t

value-near : (v w : Valuation) (steps : List Equality) → IsForced v w steps → (t : Term) (c : ConcreteElem)
    → elem_stands (Index (term_value v w t)) c ≡ true → is_near (Index (solved_value steps t)) c ≡ true
value-near v w steps forced t c h = elim (cases_Bool (is_literal (after_steps steps t))) [
  | inl literal ↦ or-right _ _ (ap (λ (i : ℤ). elem_stands (Index i) c) (sym (forced t literal)) ∙ h)
  | inr unknown ↦ zero-near c (solved_value steps t) (open-zero (after_steps steps t) unknown)
]

first-near : (v w : Valuation) (steps : List Equality) → IsForced v w steps → (x : Option Elem) (r : Elem) (c : ConcreteElem)
    → one_stands (one_under v x) c ≡ true → is_near r c ≡ true → is_near (solid_or (one_under (first_by steps) x) r) c ≡ true
first-near v w steps forced None r c h k = k
first-near v w steps forced (Some (Name n)) r c h k = h
first-near v w steps forced (Some (Index i)) r c h k = or-right _ _ h
first-near v w steps forced (Some (Var n)) r c h k = value-near v w steps forced (First n) c h
first-near v w steps forced (Some AnyIndex) r c h k = k

second-near : (v w : Valuation) (steps : List Equality) → IsForced v w steps → (x : Option Elem) (r : Elem) (c : ConcreteElem)
    → one_stands (one_under w x) c ≡ true → is_near r c ≡ true → is_near (solid_or (one_under (second_by steps) x) r) c ≡ true
second-near v w steps forced None r c h k = k
second-near v w steps forced (Some (Name n)) r c h k = h
second-near v w steps forced (Some (Index i)) r c h k = or-right _ _ h
second-near v w steps forced (Some (Var n)) r c h k = value-near v w steps forced (Second n) c h
second-near v w steps forced (Some AnyIndex) r c h k = k

third-near : (x : Option Elem) (r : Elem) (c : ConcreteElem) → one_stands x c ≡ true → is_near r c ≡ true → is_near (solid_or x r) c ≡ true
third-near None r c h k = k
third-near (Some (Name n)) r c h k = h
third-near (Some (Index i)) r c h k = or-right _ _ h
third-near (Some (Var n)) r c h k = k
third-near (Some AnyIndex) r c h k = k

-- wherever the equalities hold and a concrete path stands in the columns, it has what the steps make of them
pub columns-near : (v w : Valuation) (steps : List Equality) → IsForced v w steps → (xs ys zs : List (Option Elem)) (c : ConcretePath)
    → all_stand (map (one_under v) xs) c ≡ true → all_stand (map (one_under w) ys) c ≡ true → all_stand zs c ≡ true
    → all_near (map (solved_by steps) (columns xs ys zs)) c ≡ true
columns-near v w steps forced [] [] [] [] h k l = refl
columns-near v w steps forced [] (y ∷ ys) zs [] h k l = absurd (false≢true k)
columns-near v w steps forced [] [] (z ∷ zs) [] h k l = absurd (false≢true l)
columns-near v w steps forced [] ys zs (d ∷ c) h k l = absurd (false≢true h)
columns-near v w steps forced (x ∷ xs) ys zs [] h k l = absurd (false≢true h)
columns-near v w steps forced (x ∷ xs) [] zs (d ∷ c) h k l = absurd (false≢true k)
columns-near v w steps forced (x ∷ xs) (y ∷ ys) [] (d ∷ c) h k l = absurd (false≢true l)
columns-near v w steps forced (x ∷ xs) (y ∷ ys) (z ∷ zs) (d ∷ c) h k l =
    let firsts = and_parts _ _ h in
    let seconds = and_parts _ _ k in
    let thirds = and_parts _ _ l in
    let base : is_near (Index (pos 0)) d ≡ true = zero-near d (pos 0) refl in
    and_from _ _
    (first-near v w steps forced x _ d firsts.0 (second-near v w steps forced y _ d seconds.0 (third-near z (Index (pos 0)) d thirds.0 base)))
    (columns-near v w steps forced xs ys zs c firsts.1 seconds.1 thirds.1)
