-- All failures of the rules on effects, with their causes, in the order of the text.
use Rattle.std.specs.Prelude.{◌≡◌, ◌⊎◌, ◌<◌, false, List, [], ◌∷◌, Contains}
use Rattle.std.specs.List.{All}
use Rattle.twe_base.specs.declared.place.Place.{Place}
use Rattle.twe_base.specs.Order.{IsEarlier}
use Rattle.twe_program.specs.Program.{Program}
use Rattle.effect_check.specs.declared.rule.ERule.{ERule}
use Rattle.effect_check.specs.FailsEffect.{FailsEffect, effect_rule_number}
use Rattle.refusal_causes.specs.declared.found.CausedFailure.{CausedFailure}
use Rattle.refusal_causes.specs.Causes.{IsCause}

-- the program fails the rule at the place, and the cause is true of it; it has no way
pub record IsCausedFailure (p : Program) (failure : CausedFailure) : Type 0 where
  pub fails : FailsEffect p failure.rule failure.place
  pub caused : IsCause p false failure.rule failure.place failure.cause

-- the first failure is at an earlier place than the second, or at the same place by a rule with a lower number
abbrev pub StandsBefore : CausedFailure → CausedFailure → Type 0
StandsBefore first second =
    IsEarlier first.place second.place
    ⊎ ((first.place ≡ second.place) × (effect_rule_number first.rule < effect_rule_number second.rule))

-- each comes before all that follow, so that none is there twice
abbrev pub StandInOrder : List CausedFailure → Type 0
StandInOrder [] = Unit {0}
StandInOrder (failure ∷ failures) = All (StandsBefore failure) failures × StandInOrder failures

-- one of them is a failure of this rule at this place
abbrev pub HasFailure : List CausedFailure → ERule → Place → Type 0
HasFailure failures rule place =
    (failure : CausedFailure) × Contains failures failure × (failure.rule ≡ rule) × (failure.place ≡ place)

-- these are all failures of the program, each once and with a cause, in the order of the text
pub record AreAllCauses (p : Program) (failures : List CausedFailure) : Type 0 where
  pub are : All (IsCausedFailure p) failures
  pub all : (rule : ERule) (place : Place) → FailsEffect p rule place → HasFailure failures rule place
  pub ordered : StandInOrder failures
