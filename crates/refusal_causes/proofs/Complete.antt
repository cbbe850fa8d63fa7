-- A rule does not fail at a place if no act of the declarations that it is for fails it there.
use Rattle.std.proofs.Common.{◌≡◌, ◌∙◌, ℕ, Bool, true, false, List, [], ◌∷◌, if◌then◌else◌, inl, inr, sym, refl, arith}
use Rattle.std.specs.List.{All, Contains}
use Rattle.std.proofs.lemmas.Bool.{false≢true}
use Rattle.std.proofs.lemmas.List.Elements.{All-contains, All-from_recursion, All-weaker}
use Rattle.twe_base.specs.declared.place.Place.{Place}
use Rattle.effect_sets.specs.declared.effects.Effect.{Effect}
use Rattle.twe_program.specs.declared.program.Decl.{Decl}
use Rattle.twe_program.specs.Program.{Program}
use Rattle.twe_program.specs.WellFormed.{DeclFits, IsWellFormed, MethodFits}
use Rattle.effect_check.specs.declared.act.ActKind.{ActKind}
use Rattle.effect_check.specs.declared.act.ActKind.TheVariants.{Touch, Call, Make, Wait}
use Rattle.effect_check.specs.declared.rule.ERule.{ERule}
use Rattle.effect_check.specs.declared.rule.ERule.TheVariants.{E1, E2, E3, E4, E5, E6, E7, E8}
use Rattle.effect_check.specs.Acts.{acts_in_all}
use Rattle.effect_check.specs.Covered.{CoveredAt, Does}
use Rattle.effect_check.specs.FailsEffect.{FailsEffect, TaskFails, MethodFails}
use Rattle.effect_check.specs.FailsEffect as rules
use Rattle.refusal_causes.specs.Seeking.{decls_for, is_at, is_of_methods}
use Rattle.refusal_causes.specs.inner.Keeping.{IsDeclared, IsKept, KeepsThere}
use Rattle.refusal_causes.proofs.Needs.{is_there}

-- a place that is the same, as the last of some tests
is_last : (place : Place) → is_at place place ≡ false → ⊥
is_last place e = false≢true (sym e ∙ is_there place)

alone : (effect : Effect) → Contains (effect ∷ []) effect
alone effect = (0, omega arith, refl)

module _ (p : Program) where
  -- the act keeps the rule
  kept : (rule : ERule) (place : Place) (decl : Decl) → KeepsThere p rule place decl → (point : ℕ) (kind : ActKind)
      → Does p decl point kind → IsKept p rule place decl (record { point = point; kind = kind })
  kept rule place decl keeps point kind does =
      All-contains (IsKept p rule place decl) (acts_in_all p decl.body.block) (record { point = point; kind = kind }) keeps does

  one : (rule : ERule) (place : Place) (decls : List Decl) → All (KeepsThere p rule place) decls → (decl : Decl) → Contains decls decl
      → KeepsThere p rule place decl
  one rule place decls all decl contained = All-contains (KeepsThere p rule place) decls decl all contained

  task_keeps : (task : Decl) → Contains p.tasks task → (rule : ERule) (place : Place) → TaskFails p task rule place
      → All (KeepsThere p rule place) (decls_for p rule) → ⊥
  task_keeps task there _ _ (rules.access point effect place does n) all =
      n (All-contains (CoveredAt p task point) (effect ∷ []) effect
      (kept E1 place task (one E1 place p.tasks all task there) point (Touch effect place) does refl) (alone effect))
  task_keeps task there _ _ (rules.called point effects effect place does contained n) all =
      n (All-contains (CoveredAt p task point) effects.effects effect
      (kept E2 place task (one E2 place p.tasks all task there) point (Call effects place) does refl) contained)
  task_keeps task there _ _ (rules.spawned point future deterministic effects effect future_place place does contained n) all =
      let kind : ActKind = Make future true deterministic effects future_place place in
      n (All-contains (CoveredAt p task point) effects.effects effect
      (kept E3 place task (one E3 place p.tasks all task there) point kind does refl) contained)
  task_keeps task there _ _ (rules.joined point future place does n) all =
      n (kept E4 place task (one E4 place p.tasks all task there) point (Wait future true place) does (is_there place))
  task_keeps task there _ _ (rules.spawned_again point future deterministic effects future_place place does out) all =
      kept E5 future_place task (one E5 future_place p.tasks all task there) point (Make future true deterministic effects future_place place) does
      (is_there future_place) out
  task_keeps task there _ _ (rules.made_later point future deterministic effects future_place place does strict) all =
      is_last place (kept E6 place task (one E6 place p.tasks all task there) point (Make future false deterministic effects future_place place) does strict).0
  task_keeps task there _ _ (rules.waited point future place does strict) all =
      is_last place (kept E6 place task (one E6 place p.tasks all task there) point (Wait future false place) does strict).1
  task_keeps task there _ _ (rules.not_deterministic point future effects future_place place does strict) all =
      is_last place (kept E7 place task (one E7 place p.tasks all task there) point (Make future true false effects future_place place) does strict)

  method_keeps : (method : Decl) → Contains p.methods method → (rule : ERule) (place : Place) → MethodFails p method rule place
      → All (KeepsThere p rule place) (decls_for p rule) → ⊥
  method_keeps method there _ _ (rules.access_outside point effect place does n) all =
      n (All-contains (IsDeclared method.summary) (effect ∷ []) effect
      (kept E8 place method (one E8 place p.methods all method there) point (Touch effect place) does refl) (alone effect))
  method_keeps method there _ _ (rules.called_outside point effects effect place does contained n) all =
      n (All-contains (IsDeclared method.summary) effects.effects effect
      (kept E8 place method (one E8 place p.methods all method there) point (Call effects place) does refl) contained)

  -- if all declarations that the rule is for keep it at the place, it does not fail there
  pub none_fails : (rule : ERule) (place : Place) → All (KeepsThere p rule place) (decls_for p rule) → ¬ FailsEffect p rule place
  none_fails rule place all (inl found) = task_keeps found.0 found.1 rule place found.2 all
  none_fails rule place all (inr found) = method_keeps found.0 found.1 rule place found.2 all

  -- each declaration of a program is well formed
  pub fit_by : IsWellFormed p → (b : Bool) → All (DeclFits p) (if b then p.methods else p.tasks)
  fit_by wf true = All-weaker (MethodFits p) (DeclFits p) (λ method fits. fits.fits) p.methods (All-from_recursion (MethodFits p) p.methods wf.methods)
  fit_by wf false = All-from_recursion (DeclFits p) p.tasks wf.tasks

  pub all_fit : IsWellFormed p → (rule : ERule) → All (DeclFits p) (decls_for p rule)
  all_fit wf rule = fit_by wf (is_of_methods rule)
