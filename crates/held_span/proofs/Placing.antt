-- A further effect is placed.
use Rattle.std.proofs.Common.{◌≡◌, ◌⊎◌, ◌<◌, ◌-◌, ◌^◌, inl, inr, ℕ, List, [], ◌∷◌, ◌++◌, length, Some, IsTrue, sym, ap, ◌∙◌, subst, arith}
use Rattle.std.specs.Prelude.{slice_get}
use Rattle.std.proofs.lemmas.List.{length_push}
use Rattle.std.proofs.lemmas.Option.{slice_get_within}
use Rattle.region_paths.specs.Filled.{filled}
use Rattle.effect_sets.specs.declared.effects.Effect.{Effect}
use Rattle.prefix_tree.specs.Nodes.{IsTreeOfPaths, path_of}
use Rattle.effect_tree.specs.Place.{IsPlace}
use Rattle.held_span.specs.Gathering.{ArePlaced, IsPlacedAt}
use Rattle.held_span.specs.Rivals.{EffectList, IsNumberOf}
use Rattle.held_span.specs.Tables.{IsListed}
use Rattle.held_span.specs.declared.placed.Placed.{Placed}
use Rattle.held_span.proofs.Longer.{get-cases}

module _ (old : Placed) (place : ℕ) (effect : Effect) (at_nodes : List (List ℕ)) (effects : EffectList) (places : List ℕ) (are : ArePlaced old) (grown : effects ≡ old.effects ++ effect ∷ []) (placed : places ≡ old.places ++ place ∷ []) where
  effect-cases : (number : ℕ) (other : Effect) → IsNumberOf effects number other → IsNumberOf old.effects number other ⊎ ((number ≡ length old.effects) × (other ≡ effect))
  effect-cases number other is = get-cases old.effects effect number other (subst (λ (es : EffectList). IsNumberOf es number other) grown is)

  place-cases : (number node : ℕ) → slice_get places number ≡ Some node → IsPlacedAt old number node ⊎ ((number ≡ length old.places) × (node ≡ place))
  place-cases number node is = get-cases old.places place number node (subst (λ (ps : List ℕ). slice_get ps number ≡ Some node) placed is)

  -- what is new in one list is not old in the other
  old-effect : (number : ℕ) (other : Effect) → IsNumberOf old.effects number other → number ≡ length old.places → ⊥
  old-effect number other is last = let below = slice_get_within old.effects number other is in omega (arith, are.places)

  old-place : (number node : ℕ) → IsPlacedAt old number node → number ≡ length old.effects → ⊥
  old-place number node is last = let below = slice_get_within old.places number node is in omega (arith, are.places)

  placed-at : IsPlace old.shape effect.path (path_of old.shape place) → (number node : ℕ) (other : Effect) → IsNumberOf effects number other → slice_get places number ≡ Some node → IsPlace old.shape other.path (path_of old.shape node)
  placed-at here number node other is at =
      elim (effect-cases number other is) [
        | inl before ↦ elim (place-cases number node at) [
          | inl there ↦ are.placed_at number node other before there
          | inr last ↦ absurd (old-effect number other before last.0)
        ]
        | inr last ↦ elim (place-cases number node at) [
          | inl there ↦ absurd (old-place number node there last.0)
          | inr end ↦
              subst (λ (e : Effect). IsPlace old.shape e.path (path_of old.shape node)) (sym last.1)
              (subst (λ (n : ℕ). IsPlace old.shape effect.path (path_of old.shape n)) (sym end.1) here)
        ]
      ]

  pub placed-more : IsTrue (filled effect.path) → place < length old.shape → IsPlace old.shape effect.path (path_of old.shape place) → length old.effects < 2 ^ 32 - 1 → length at_nodes ≡ length old.at_nodes → IsListed at_nodes place (length old.effects) → ((i n : ℕ) → IsListed old.at_nodes i n → IsListed at_nodes i n) → ArePlaced (record { shape = old.shape; at_nodes = at_nodes; effects = effects; places = places })
  placed-more is_filled below here room count listed kept = record {
    tree = are.tree;
    nodes = count ∙ are.nodes;
    places = omega (arith, ap length placed ∙ length_push old.places place, ap length grown ∙ length_push old.effects effect, are.places);
    few = omega (arith, ap length grown ∙ length_push old.effects effect, room);
    filled = λ number other is. elim (effect-cases number other is) [
      | inl before ↦ are.filled number other before
      | inr last ↦ subst (λ (e : Effect). IsTrue (filled e.path)) (sym last.1) is_filled
    ];
    there = λ number node at. elim (place-cases number node at) [
      | inl before ↦ are.there number node before
      | inr last ↦ subst (λ (n : ℕ). n < length old.shape) (sym last.1) below
    ];
    placed_at = placed-at here;
    listed = λ number node at. elim (place-cases number node at) [
      | inl before ↦ kept node number (are.listed number node before)
      | inr last ↦
          subst (λ (n : ℕ). IsListed at_nodes n number) (sym last.1)
          (subst (λ (k : ℕ). IsListed at_nodes place k) (sym (last.0 ∙ are.places)) listed)
    ];
  }

-- no effects
pub placed-none : (placed : Placed) → IsTreeOfPaths placed.shape → length placed.at_nodes ≡ length placed.shape → placed.effects ≡ [] → placed.places ≡ [] → ArePlaced placed
placed-none placed tree nodes no_effects no_places = record {
  tree = tree;
  nodes = nodes;
  places = ap length no_places ∙ sym (ap length no_effects);
  few = omega (arith, ap length no_effects);
  filled = λ number effect is. absurd (cc (subst (λ (es : EffectList). IsNumberOf es number effect) no_effects is));
  there = λ number node at. absurd (cc (subst (λ (ps : List ℕ). slice_get ps number ≡ Some node) no_places at));
  placed_at = λ number node effect is at. absurd (cc (subst (λ (es : EffectList). IsNumberOf es number effect) no_effects is));
  listed = λ number node at. absurd (cc (subst (λ (ps : List ℕ). slice_get ps number ≡ Some node) no_places at));
}
