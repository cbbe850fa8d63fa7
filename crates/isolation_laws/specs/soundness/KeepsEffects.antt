-- Programs that keep the rules on effects.
use Rattle.twe_base.specs.declared.place.Place.{Place}
use Rattle.twe_program.specs.Program.{Program}
use Rattle.effect_check.specs.declared.rule.ERule.{ERule}
use Rattle.effect_check.specs.FailsEffect.{FailsEffect}

-- the program does not fail any rule on effects at any place
abbrev pub KeepsEffects : Program → Type 0
KeepsEffects p = (rule : ERule) (place : Place) → ¬ FailsEffect p rule place
