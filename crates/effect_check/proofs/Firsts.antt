-- The first failure of one list after another.
use Rattle.std.proofs.Common.{◌≡◌, List, ◌++◌, Option}
use Rattle.twe_base.proofs.Firsts as firsts_of
use Rattle.effect_check.specs.FailsEffect.{EffectFailure, effect_rule_number}
use Rattle.effect_check.specs.inner.Failures.{first_from}

pub first_from-append : (first : Option EffectFailure) (xs ys : List EffectFailure) → first_from first (xs ++ ys) ≡ first_from (first_from first xs) ys
first_from-append first xs ys = firsts_of.first_from-append effect_rule_number first xs ys

pub ruleset firsts = (first_from-append)
