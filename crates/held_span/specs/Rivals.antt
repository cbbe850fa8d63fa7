-- Which of the distinct effects interfere, and what stands for the effects of a list.
use Rattle.std.specs.Prelude.{◌≡◌, ℕ, Bool, false, List, Option, None, Some, IsTrue, slice_get}
use Rattle.std.specs.List.{AllZip}
use Rattle.region_paths.specs.Filled.{filled}
use Rattle.effect_sets.specs.declared.effects.Effect.{Effect}
use Rattle.effect_sets.specs.Interference.{statically_interferes}

-- effects in order
abbrev pub EffectList : Type 0
EffectList = List Effect

-- the number is that of the effect
abbrev pub IsNumberOf : EffectList → ℕ → Effect → Type 0
IsNumberOf effects number effect = slice_get effects number ≡ Some effect

-- these are the numbers of the effects of a list, in their order
abbrev pub AreNumbersOf : EffectList → List ℕ → EffectList → Type 0
AreNumbersOf effects numbers list = AllZip (IsNumberOf effects) numbers list

-- no effect has a variable
abbrev pub AreFilled : EffectList → Type 0
AreFilled effects = (number : ℕ) (effect : Effect) → IsNumberOf effects number effect → IsTrue (filled effect.path)

-- an effect that was found interferes with this one
abbrev pub interferes_found : Effect → Option Effect → Bool
interferes_found effect None = false
interferes_found effect (Some other) = statically_interferes effect other

-- the effect of this number interferes with this one
abbrev pub is_rival : EffectList → Effect → ℕ → Bool
is_rival effects effect number = interferes_found effect (slice_get effects number)

-- the effects of these numbers interfere
pub record AreRivals (effects : EffectList) (a b : ℕ) : Type 0 where
  pub first : Effect
  pub at_first : IsNumberOf effects a first
  pub interfere : IsTrue (is_rival effects first b)
