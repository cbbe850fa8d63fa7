-- The widest of some effects: those that no other of them covers.
use Rattle.std.specs.Prelude.{◌≡◌, ◌<◌, ◌≤◌, Bool, false, IsTrue, List, [], ◌∷◌, length, Contains, if◌then◌else◌}
use Rattle.std.specs.List.{list_any}
use Rattle.twe_base.specs.Language.{max_effects}
use Rattle.effect_sets.specs.declared.effects.Effect.{Effect}
use Rattle.effect_sets.specs.Covers.{effect_covers}

-- one of the effects covers this one
abbrev pub is_under : List Effect → Effect → Bool
is_under effects effect = list_any (λ wide. effect_covers wide effect) effects

-- this effect covers one of the effects
abbrev pub covers_some : List Effect → Effect → Bool
covers_some effects effect = list_any (λ narrow. effect_covers effect narrow) effects

-- none of the effects covers another
abbrev pub AreUnrelated : List Effect → Type 0
AreUnrelated [] = Unit {0}
AreUnrelated (effect ∷ effects) =
    (is_under effects effect ≡ false) × (covers_some effects effect ≡ false) × AreUnrelated effects

-- at most 8 of the effects, none of which covers another, cover all of them
pub record AreFewWidest (effects widest : List Effect) : Type 0 where
  pub among : (effect : Effect) → Contains widest effect → Contains effects effect
  pub all : (effect : Effect) → Contains effects effect → IsTrue (is_under widest effect)
  pub unrelated : AreUnrelated widest
  pub few : length widest ≤ max_effects

-- more than 8 of the effects are covered by no other one; what covers them, they cover
pub record HasManyWidest (effects : List Effect) : Type 0 where
  pub widest : List Effect
  pub among : (effect : Effect) → Contains widest effect → Contains effects effect
  pub top : (effect other : Effect) → Contains widest effect → Contains effects other
      → IsTrue (effect_covers other effect) → IsTrue (effect_covers effect other)
  pub unrelated : AreUnrelated widest
  pub many : max_effects < length widest

-- those of the effects that this one does not cover
abbrev pub not_under : List Effect → Effect → List Effect
not_under [] wide = []
not_under (effect ∷ effects) wide =
    if effect_covers wide effect then not_under effects wide else effect ∷ not_under effects wide
