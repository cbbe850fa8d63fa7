-- The steps of a body by their numbers, where a step that is equal to another may be left out.
use Rattle.std.specs.Prelude.{◌≡◌, ◌<◌, ℕ, List, [], Option, None, Some, slice_get, Contains}
use Rattle.effect_sets.specs.declared.effects.Effect.{Effect}
use Rattle.effect_sets.specs.declared.effects.Summary.{Summary}
use Rattle.effect_infer.specs.declared.needs.need.BodyStep.{BodyStep}
use Rattle.summary_comparing.specs.Needed.{said_needs}

-- the step has one of these numbers, or an equal one has
abbrev pub HasNumber : List BodyStep → List ℕ → BodyStep → Type 0
HasNumber steps numbers step = (same : ℕ) × (slice_get steps same ≡ Some step) × Contains numbers same

-- so does each of the first steps, of which there are so many
abbrev pub HasFirst : ℕ → List BodyStep → List ℕ → Type 0
HasFirst count steps numbers =
    (number : ℕ) (step : BodyStep) → number < count → slice_get steps number ≡ Some step → HasNumber steps numbers step

-- so does each step
abbrev pub HasEach : List BodyStep → List ℕ → Type 0
HasEach steps numbers = (number : ℕ) (step : BodyStep) → slice_get steps number ≡ Some step → HasNumber steps numbers step

-- what a step needs, as a declaration says it that has so many parameters, if there is one
abbrev pub needs_if : List Summary → ℕ → Option BodyStep → List Effect
needs_if summaries params None = []
needs_if summaries params (Some step) = said_needs summaries params step

-- what the step with this number needs
abbrev pub numbered_needs : List Summary → ℕ → List BodyStep → ℕ → List Effect
numbered_needs summaries params steps number = needs_if summaries params (slice_get steps number)

-- both lists have the same effects, in any order and as often as they like
pub record HaveSame (effects others : List Effect) : Type 0 where
  pub in_others : (effect : Effect) → Contains effects effect → Contains others effect
  pub in_these : (effect : Effect) → Contains others effect → Contains effects effect
