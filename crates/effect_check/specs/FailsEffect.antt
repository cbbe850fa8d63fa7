-- The rules on effects: when a program fails them, and which failure comes first.
use Rattle.std.specs.Prelude.{◌⊎◌, ℕ, Bool, true, false, IsTrue, Contains}
use Rattle.twe_base.specs.declared.place.Place.{Place}
use Rattle.twe_base.specs.declared.failure.Failure.{Failure}
use Rattle.twe_base.specs.Order as order
use Rattle.effect_sets.specs.declared.effects.Effect.{Effect}
use Rattle.effect_sets.specs.declared.effects.Summary.{Summary}
use Rattle.effect_sets.specs.Covers.{covers}
use Rattle.twe_program.specs.declared.program.Decl.{Decl}
use Rattle.twe_program.specs.Program.{Program}
use Rattle.cover_flow.specs.Out.{MayBeOut, SurelyOut}
use Rattle.effect_check.specs.declared.act.ActKind.TheVariants.{Touch, Call, Make, Wait}
use Rattle.effect_check.specs.declared.rule.ERule.{ERule}
use Rattle.effect_check.specs.declared.rule.ERule.TheVariants.{E1, E2, E3, E4, E5, E6, E7, E8}
use Rattle.effect_check.specs.declared.rule.CheckFail.{CheckFail}
use Rattle.effect_check.specs.declared.rule.CheckFail.TheVariants.{Rule, OutOfMemory}
use Rattle.effect_check.specs.Covered.{Does, CoveredAt}

-- the rules for the body of a task, at the places where they fail
pub data TaskFails (p : Program) (task : Decl) : ERule → Place → Type 0 where
  -- an access or a print is not covered
  access : (point : ℕ) (effect : Effect) (place : Place)
      → Does p task point (Touch effect place) → ¬ CoveredAt p task point effect → TaskFails p task E1 place
  -- an effect of a called method is not covered
  called : (point : ℕ) (effects : Summary) (effect : Effect) (place : Place)
      → Does p task point (Call effects place) → Contains effects.effects effect
      → ¬ CoveredAt p task point effect
      → TaskFails p task E2 place
  -- an effect of a spawned task is not covered just before the spawn
  spawned : (point future : ℕ) (deterministic : Bool) (effects : Summary) (effect : Effect) (future_place place : Place)
      → Does p task point (Make future true deterministic effects future_place place)
      → Contains effects.effects effect → ¬ CoveredAt p task point effect → TaskFails p task E3 place
  -- the future of a join is not surely out
  joined : (point future : ℕ) (place : Place)
      → Does p task point (Wait future true place) → ¬ SurelyOut task.body point future → TaskFails p task E4 place
  -- the future of a spawn may be out
  spawned_again : (point future : ℕ) (deterministic : Bool) (effects : Summary) (future_place place : Place)
      → Does p task point (Make future true deterministic effects future_place place)
      → MayBeOut task.body point future → TaskFails p task E5 future_place
  -- a deterministic task has an `executeLater`, or a `getValue`
  made_later : (point future : ℕ) (deterministic : Bool) (effects : Summary) (future_place place : Place)
      → Does p task point (Make future false deterministic effects future_place place)
      → IsTrue task.deterministic → TaskFails p task E6 place
  waited : (point future : ℕ) (place : Place)
      → Does p task point (Wait future false place) → IsTrue task.deterministic → TaskFails p task E6 place
  -- a deterministic task spawns one that is not
  not_deterministic : (point future : ℕ) (effects : Summary) (future_place place : Place)
      → Does p task point (Make future true false effects future_place place)
      → IsTrue task.deterministic → TaskFails p task E7 place

-- the rule for the body of a method
pub data MethodFails (p : Program) (method : Decl) : ERule → Place → Type 0 where
  -- an access or a print is not inside its summary
  access_outside : (point : ℕ) (effect : Effect) (place : Place)
      → Does p method point (Touch effect place) → ¬ IsTrue (covers method.summary effect) → MethodFails p method E8 place
  -- nor is an effect of a called method
  called_outside : (point : ℕ) (effects : Summary) (effect : Effect) (place : Place)
      → Does p method point (Call effects place) → Contains effects.effects effect → ¬ IsTrue (covers method.summary effect)
      → MethodFails p method E8 place

-- the program fails the rule at the place
abbrev pub FailsEffect : Program → ERule → Place → Type 0
FailsEffect p rule place =
    ((task : Decl) × Contains p.tasks task × TaskFails p task rule place)
    ⊎ ((method : Decl) × Contains p.methods method × MethodFails p method rule place)

-- The number of a rule. Of several rules that fail at one place the one with the lowest number comes first.
abbrev pub effect_rule_number : ERule → ℕ
effect_rule_number E1 = 1
effect_rule_number E2 = 2
effect_rule_number E3 = 3
effect_rule_number E4 = 4
effect_rule_number E5 = 5
effect_rule_number E6 = 6
effect_rule_number E7 = 7
effect_rule_number E8 = 8

-- a rule on effects that fails, and where
abbrev pub EffectFailure : Type 0
EffectFailure = Failure ERule

-- the failure that comes before all others
abbrev pub IsFirstEffectFailure : Program → ERule → Place → Type 0
IsFirstEffectFailure p rule place = order.IsFirstFailure effect_rule_number (FailsEffect p) rule place

-- the cause of an error: the first failure; nothing is said of want of memory
abbrev pub CheckHasCause : Program → CheckFail → Type 0
CheckHasCause p (Rule rule place) = IsFirstEffectFailure p rule place
CheckHasCause p (OutOfMemory memory) = Unit {0}
