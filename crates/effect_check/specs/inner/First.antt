-- The first of all failures that there are.
use Rattle.std.specs.Prelude.{List, Option, Contains}
use Rattle.twe_program.specs.declared.program.Decl.{Decl}
use Rattle.twe_program.specs.Program.{Program}
use Rattle.twe_base.specs.Order as order
use Rattle.effect_check.specs.FailsEffect.{EffectFailure, FailsEffect, effect_rule_number, TaskFails}

-- it is one of the failures and comes after no other, or there is none
abbrev pub IsFirstOf : (EffectFailure → Type 0) → Option EffectFailure → Type 0
IsFirstOf Fails first = order.IsFirstOf effect_rule_number Fails first

-- one of these tasks, or methods, fails the rule at the place
abbrev pub OneFails : (Decl → EffectFailure → Type 0) → List Decl → EffectFailure → Type 0
OneFails Fails decls f = (decl : Decl) × Contains decls decl × Fails decl f

-- some task fails the rule at the place
abbrev pub FailsInTask : Program → EffectFailure → Type 0
FailsInTask p f = OneFails (λ task g. TaskFails p task g.rule g.place) p.tasks f

-- some task or method fails the rule at the place
abbrev pub FailsInBody : Program → EffectFailure → Type 0
FailsInBody p f = FailsEffect p f.rule f.place
