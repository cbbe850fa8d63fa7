-- The search for the widest of some effects: those that were kept, and those that are left.
use Rattle.std.specs.Prelude.{◌≡◌, ◌⊎◌, ℕ, false, IsTrue, List, Contains, slice_index_or}
use Rattle.std.specs.List.{All}
use Rattle.effect_sets.specs.declared.effects.Effect.{Effect}
use Rattle.effect_sets.specs.Covers.{effect_covers}
use Rattle.summary_comparing.specs.Widest.{AreUnrelated, is_under}

-- it covers each of the effects that covers it
abbrev pub IsTopAmong : List Effect → Effect → Type 0
IsTopAmong effects top = All (λ other. IsTrue (effect_covers other top) → IsTrue (effect_covers top other)) effects

-- the effect at this place does
abbrev pub IsTopAt : List Effect → ℕ → Type 0
IsTopAt effects place = (d : Effect) → IsTopAmong effects (slice_index_or effects place d)

-- the effects that were kept are widest ones, and those that are left are all that they do not cover
pub record KeepsWidest (effects kept left : List Effect) : Type 0 where
  pub among : (effect : Effect) → Contains kept effect → Contains effects effect
  pub left_among : (effect : Effect) → Contains left effect → Contains effects effect
  pub top : (effect other : Effect) → Contains kept effect → Contains effects other
      → IsTrue (effect_covers other effect) → IsTrue (effect_covers effect other)
  pub unrelated : AreUnrelated kept
  pub met : (effect : Effect) → Contains effects effect → IsTrue (is_under kept effect) ⊎ Contains left effect
  pub new : (effect : Effect) → Contains left effect → is_under kept effect ≡ false
