-- The effects in their order are the same effects.
use Rattle.std.proofs.Common.{◌≡◌, ◌⊎◌, ℕ, List, [], ◌∷◌, take, drop, inl, inr, subst}
use Rattle.std.specs.Prelude.{insert}
use Rattle.std.specs.List.{Contains}
use Rattle.std.proofs.lemmas.List.{take-append-drop}
use Rattle.twe_base.proofs.Members.{IsIn, contains-in, in-cases, in-contains, in-left, in-right}
use Rattle.effect_sets.specs.declared.effects.Effect.{Effect}
use Rattle.summary_comparing.specs.EffectOrder.{in_effect_order, place_among, with_each_placed}

-- what is in a list with one more element is that one, or was in it
insert-in : {X : Type 0} (xs : List X) (k : ℕ) (x y : X) → IsIn y (insert xs k x) → (y ≡ x) ⊎ IsIn y xs
insert-in xs k x y h = elim (in-cases y (take k xs) (x ∷ drop k xs) h) [
  | inl front ↦ inr (subst (IsIn y) (take-append-drop k xs) (in-left y (take k xs) (drop k xs) front))
  | inr back ↦ elim back [
    | inl same ↦ inl same
    | inr later ↦ inr (subst (IsIn y) (take-append-drop k xs) (in-right y (take k xs) (drop k xs) later))
  ]
]

-- it was placed before, or is one of the others
placed-in : (effects placed : List Effect) (e : Effect) → IsIn e (with_each_placed placed effects) → IsIn e placed ⊎ IsIn e effects
placed-in [] placed e h = inl h
placed-in (effect ∷ effects) placed e h = elim (placed-in effects (insert placed (place_among placed effect) effect) e h) [
  | inl before ↦ elim (insert-in placed (place_among placed effect) effect e before) [
    | inl same ↦ inr (inl same)
    | inr there ↦ inl there
  ]
  | inr later ↦ inr (inr later)
]

pub ordered-among : (effects : List Effect) (e : Effect) → Contains (in_effect_order effects) e → Contains effects e
ordered-among effects e c = elim (placed-in effects [] e (contains-in (in_effect_order effects) e c)) [
  | inl none ↦ absurd none
  | inr there ↦ in-contains effects e there
]
