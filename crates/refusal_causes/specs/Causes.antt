-- When a cause is true of a program.
use Rattle.std.specs.Prelude.{◌≡◌, ℕ, Bool, true, false, not, ◌&&◌, IsTrue, List, Contains, Option, IfNone, IfSome, is_some}
use Rattle.twe_base.specs.declared.place.Place.{Place}
use Rattle.effect_sets.specs.declared.effects.Effect.{Effect}
use Rattle.effect_sets.specs.declared.effects.Summary.{Summary}
use Rattle.effect_sets.specs.Covers.{covers}
use Rattle.effect_sets.specs.Interference.{statically_interferes}
use Rattle.twe_program.specs.declared.program.Body.{Body}
use Rattle.twe_program.specs.declared.program.Decl.{Decl}
use Rattle.twe_program.specs.Program.{Program}
use Rattle.cover_flow.specs.Out.{MayBeOut, SurelyOut}
use Rattle.refusal_causes.specs.declared.way.ControlWay.{ControlWay}
use Rattle.refusal_causes.specs.Ways.{IsWay}
use Rattle.effect_check.specs.declared.act.ActKind.{ActKind}
use Rattle.effect_check.specs.declared.act.ActKind.TheVariants.{Touch, Call, Make, Wait}
use Rattle.effect_check.specs.declared.rule.ERule.{ERule}
use Rattle.effect_check.specs.declared.rule.ERule.TheVariants.{E4, E5, E6, E7}
use Rattle.effect_check.specs.Covered.{Does}
use Rattle.twe_frontend.specs.declared.refusal.RuleName.{RuleName}
use Rattle.twe_frontend.specs.declared.refusal.RuleName.TheVariants.{Text, Name, Effect as Effects}
use Rattle.refusal_causes.specs.declared.cause.RuleCause.{RuleCause}
use Rattle.refusal_causes.specs.declared.cause.RuleCause.TheVariants.{Undeclared, Out, NotOut, OutAgain, OrderOpen, NotDeterministic}
use Rattle.refusal_causes.specs.Seeking.{decls_for, is_at, is_of_needs, needs_at, needs_of}

-- at this point the declaration does something at this place that needs the effect
pub record NeedsAt (p : Program) (decl : Decl) (point : ℕ) (place : Place) (effect : Effect) : Type 0 where
  pub kind : ActKind
  pub does : Does p decl point kind
  pub there : IsTrue (needs_at place kind)
  pub needs : Contains (needs_of kind) effect

-- the declaration needs the effect at this place, and no effect that it declares includes it
pub record IsUndeclared (p : Program) (decl : Decl) (place : Place) (need : Effect) : Type 0 where
  pub point : ℕ
  pub needs : NeedsAt p decl point place need
  pub outside : ¬ IsTrue (covers decl.summary need)

-- a way is there exactly if ways are wanted; then it is one of the body to the point on which the future is out, or is not
abbrev pub IsWayIf : Bool → Body → ℕ → ℕ → Bool → Option ControlWay → Type 0
IsWayIf ways body point future out way = (is_some way ≡ ways) × IfSome way (IsWay body point future out)

-- the task spawns into the future at this place, the future may be out at the point, and the spawned task has this effect,
-- which interferes with the one that is needed
pub record IsBarred (p : Program) (ways : Bool) (task : Decl) (point : ℕ) (need other : Effect) (future_place : Place)
    (way : Option ControlWay) : Type 0 where
  pub at : ℕ
  pub future : ℕ
  pub deterministic : Bool
  pub effects : Summary
  pub place : Place
  pub spawns : Does p task at (Make future true deterministic effects future_place place)
  pub out : MayBeOut task.body point future
  pub shown : IsWayIf ways task.body point future true way
  pub has : Contains effects.effects other
  pub interferes : IsTrue (statically_interferes need other)

-- the task needs the effect at this place, where it is barred
pub record IsOut (p : Program) (ways : Bool) (task : Decl) (place : Place) (need other : Effect) (future_place : Place)
    (way : Option ControlWay) : Type 0 where
  pub point : ℕ
  pub needs : NeedsAt p task point place need
  pub barred : IsBarred p ways task point need other future_place way

-- the body of the task makes this future's task, and there the future's name is at the place
pub record IsMadeAt (p : Program) (task : Decl) (future : ℕ) (future_place : Place) : Type 0 where
  pub at : ℕ
  pub spawned : Bool
  pub deterministic : Bool
  pub effects : Summary
  pub place : Place
  pub makes : Does p task at (Make future spawned deterministic effects future_place place)

-- the body makes this future's task nowhere
abbrev pub IsMadeNowhere : Program → Decl → ℕ → Type 0
IsMadeNowhere p task future = (future_place : Place) → ¬ IsMadeAt p task future future_place

-- the task joins a future at this place that is not out on some control path to it; a place is named where the future's task is
-- made, and none exactly if it is made nowhere
pub record IsNotOut (p : Program) (ways : Bool) (task : Decl) (place : Place) (future_place : Option Place) (way : Option ControlWay)
    : Type 0 where
  pub point : ℕ
  pub future : ℕ
  pub at : Place
  pub joins : Does p task point (Wait future true at)
  pub there : IsTrue (is_at at place)
  pub not_out : ¬ SurelyOut task.body point future
  pub shown : IsWayIf ways task.body point future false way
  pub made : IfSome future_place (IsMadeAt p task future)
  pub unmade : IfNone future_place (IsMadeNowhere p task future)

-- the task spawns into a future at this place that may be out already
pub record IsOutAgain (p : Program) (ways : Bool) (task : Decl) (place : Place) (way : Option ControlWay) : Type 0 where
  pub point : ℕ
  pub future : ℕ
  pub deterministic : Bool
  pub effects : Summary
  pub at : Place
  pub task_place : Place
  pub spawns : Does p task point (Make future true deterministic effects at task_place)
  pub there : IsTrue (is_at at place)
  pub out : MayBeOut task.body point future
  pub shown : IsWayIf ways task.body point future true way

-- this is an `executeLater` at the place, or a `getValue`
abbrev pub has_open_order : Place → Bool → ActKind → Bool
has_open_order other makes (Touch effect place) = false
has_open_order other makes (Call effects place) = false
has_open_order other makes (Make future spawned deterministic effects future_place place) =
    makes && (not spawned && is_at place other)
has_open_order other makes (Wait future join place) = not makes && (not join && is_at place other)

-- this is a spawn at the place of a task that was not declared deterministic
abbrev pub spawns_other : Place → ActKind → Bool
spawns_other other (Touch effect place) = false
spawns_other other (Call effects place) = false
spawns_other other (Make future spawned deterministic effects future_place place) =
    spawned && (not deterministic && is_at place other)
spawns_other other (Wait future join place) = false

-- the task is deterministic, and does something that is of this kind
pub record DoesStrictly (p : Program) (task : Decl) (decl_place : Place) (test : ActKind → Bool) : Type 0 where
  pub point : ℕ
  pub kind : ActKind
  pub does : Does p task point kind
  pub is_such : IsTrue (test kind)
  pub strict : IsTrue task.deterministic
  pub declared : decl_place ≡ task.place

-- the cause is one of this rule, and true of what the declaration does at this place; it has a way exactly if ways are wanted
-- and it speaks of a future
abbrev pub IsCauseIn : Program → Bool → ERule → Place → Decl → RuleCause → Type 0
IsCauseIn p ways rule place decl (Undeclared need declared decl_place) =
    IsTrue (is_of_needs rule) × (declared ≡ decl.summary) × (decl_place ≡ decl.place) × IsUndeclared p decl place need
IsCauseIn p ways rule place decl (Out need other future_place way decl_place) =
    IsTrue (is_of_needs rule) × (decl_place ≡ decl.place) × IsOut p ways decl place need other future_place way
IsCauseIn p ways rule place decl (NotOut future_place way) = (rule ≡ E4) × IsNotOut p ways decl place future_place way
IsCauseIn p ways rule place decl (OutAgain way) = (rule ≡ E5) × IsOutAgain p ways decl place way
IsCauseIn p ways rule place decl (OrderOpen makes decl_place) =
    (rule ≡ E6) × DoesStrictly p decl decl_place (has_open_order place makes)
IsCauseIn p ways rule place decl (NotDeterministic decl_place) =
    (rule ≡ E7) × DoesStrictly p decl decl_place (spawns_other place)

-- the cause is true of what one of these declarations does at this place
abbrev pub IsCauseOfSome : Program → Bool → ERule → Place → List Decl → RuleCause → Type 0
IsCauseOfSome p ways rule place decls cause = (decl : Decl) × Contains decls decl × IsCauseIn p ways rule place decl cause

-- the cause of the rule's failure is true of what a task does at this place or, of rule E8, a method
abbrev pub IsCause : Program → Bool → ERule → Place → RuleCause → Type 0
IsCause p ways rule place cause = IsCauseOfSome p ways rule place (decls_for p rule) cause

-- the same of a rule of any class: only rules on effects have causes
abbrev pub IsCauseOf : Program → Bool → RuleName → Place → RuleCause → Type 0
IsCauseOf p ways (Text rule) place cause = ⊥
IsCauseOf p ways (Name rule) place cause = ⊥
IsCauseOf p ways (Effects rule) place cause = IsCause p ways rule place cause
