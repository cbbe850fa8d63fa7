-- What is so if no cause is found.
use Rattle.std.specs.Prelude.{◌≡◌, ◌==◌, ℕ, Bool, true, false, IsTrue, List, Option, None, Some, if◌then◌else◌}
use Rattle.std.specs.List.{All}
use Rattle.twe_base.specs.declared.place.Place.{Place}
use Rattle.effect_sets.specs.declared.effects.Effect.{Effect}
use Rattle.effect_sets.specs.declared.effects.Summary.{Summary}
use Rattle.effect_sets.specs.Covers.{covers}
use Rattle.effect_sets.specs.Interference.{statically_interferes}
use Rattle.twe_program.specs.declared.program.Body.{Body}
use Rattle.twe_program.specs.declared.program.Decl.{Decl}
use Rattle.twe_program.specs.Program.{Program}
use Rattle.cover_flow.specs.Flow.{is_among}
use Rattle.cover_flow.specs.Out.{MayBeOut, SurelyOut}
use Rattle.effect_check.specs.declared.act.Act.{Act}
use Rattle.effect_check.specs.declared.act.ActKind.{ActKind}
use Rattle.effect_check.specs.declared.act.ActKind.TheVariants.{Touch, Call, Make, Wait}
use Rattle.effect_check.specs.declared.rule.ERule.{ERule}
use Rattle.effect_check.specs.declared.rule.ERule.TheVariants.{E1, E2, E3, E4, E5, E6, E7, E8}
use Rattle.effect_check.specs.Acts.{acts_in_all}
use Rattle.effect_check.specs.Covered.{CoveredAt, Does}
use Rattle.effect_check.specs.FailsEffect.{EffectFailure}
use Rattle.refusal_causes.specs.Seeking.{is_at, needs_of}
use Rattle.refusal_causes.specs.Causes.{has_open_order, spawns_other}

-- the declaration does this act
abbrev pub IsDone : Program → Decl → Act → Type 0
IsDone p decl act = Does p decl act.point act.kind

-- the effect is inside one of the summary, which writes if it writes
abbrev pub IsDeclared : Summary → Effect → Type 0
IsDeclared summary need = IsTrue (covers summary need)

-- the effect interferes with none of the others
abbrev pub IsFreeOf : Summary → Effect → Type 0
IsFreeOf others effect = All (λ other. statically_interferes effect other ≡ false) others.effects

-- if the future may be out at the point, these effects interfere with none of the spawned task
abbrev pub AreFreeOf : Body → ℕ → List Effect → ℕ → Summary → Type 0
AreFreeOf body point needs future effects = MayBeOut body point future → All (IsFreeOf effects) needs

-- if this is a spawn, its future is one of the 128 from the first one on
abbrev pub IsFollowed : ℕ → ActKind → Type 0
IsFollowed first (Touch effect place) = Unit {0}
IsFollowed first (Call effects place) = Unit {0}
IsFollowed first (Make future true deterministic effects future_place place) = IsTrue (is_among first future)
IsFollowed first (Make future false deterministic effects future_place place) = Unit {0}
IsFollowed first (Wait future join place) = Unit {0}

-- this is no spawn that bars one of these effects at the point
abbrev pub BarsNone : Decl → ℕ → List Effect → ActKind → Type 0
BarsNone task point needs (Touch effect place) = Unit {0}
BarsNone task point needs (Call effects place) = Unit {0}
BarsNone task point needs (Make future true deterministic effects future_place place) =
    AreFreeOf task.body point needs future effects
BarsNone task point needs (Make future false deterministic effects future_place place) = Unit {0}
BarsNone task point needs (Wait future join place) = Unit {0}

-- the same of what is done by an act
abbrev pub IsNoBar : Decl → ℕ → List Effect → Act → Type 0
IsNoBar task point needs act = BarsNone task point needs act.kind

-- the rule for methods in place of the rule for tasks, if it is a method that does something
abbrev pub rule_for : Bool → ERule → ERule
rule_for true of_tasks = E8
rule_for false of_tasks = of_tasks

-- The rule that a task, or a method, fails by this if it lacks an effect for it, and the place at which it does: what a task
-- makes by `executeLater`, and what a method makes at all, needs none.
abbrev pub need_at : Bool → ActKind → Option EffectFailure
need_at of_methods (Touch effect place) = Some (record { rule = rule_for of_methods E1; place = place })
need_at of_methods (Call effects place) = Some (record { rule = rule_for of_methods E2; place = place })
need_at of_methods (Make future true deterministic effects future_place place) =
    if of_methods then None else Some (record { rule = E3; place = place })
need_at of_methods (Make future false deterministic effects future_place place) = None
need_at of_methods (Wait future join place) = None

-- if by this a task fails the rule at the place where an effect lacks, it has all that it needs for it
abbrev pub IsCoveredFor : Program → ERule → Place → Decl → Act → Type 0
IsCoveredFor p rule place task act =
    need_at false act.kind ≡ Some (record { rule = rule; place = place }) → All (CoveredAt p task act.point) (needs_of act.kind)

-- if by this a task, or a method, fails the rule at the place where an effect lacks, it declares all that it needs for it
abbrev pub IsDeclaredFor : Bool → ERule → Place → Decl → ActKind → Type 0
IsDeclaredFor of_methods rule place decl kind =
    need_at of_methods kind ≡ Some (record { rule = rule; place = place }) → All (IsDeclared decl.summary) (needs_of kind)

-- this makes the task of the future, whose name is at the place
abbrev pub IsMaking : ℕ → Place → ActKind → Type 0
IsMaking wanted place (Touch effect at) = ⊥
IsMaking wanted place (Call effects at) = ⊥
IsMaking wanted place (Make future spawned deterministic effects future_place at) = (future ≡ wanted) × (future_place ≡ place)
IsMaking wanted place (Wait future join at) = ⊥

-- whether this makes the task of the future
abbrev pub is_making : ℕ → ActKind → Bool
is_making wanted (Touch effect place) = false
is_making wanted (Call effects place) = false
is_making wanted (Make future spawned deterministic effects future_place place) = future == wanted
is_making wanted (Wait future join place) = false

-- the act does not make the task of the future
abbrev pub IsNoMake : ℕ → Act → Type 0
IsNoMake wanted act = is_making wanted act.kind ≡ false

-- if this is a join at the place, its future is surely out
abbrev pub JoinsSurely : Decl → Place → ℕ → ActKind → Type 0
JoinsSurely task place point (Touch effect at) = Unit {0}
JoinsSurely task place point (Call effects at) = Unit {0}
JoinsSurely task place point (Make future spawned deterministic effects future_place at) = Unit {0}
JoinsSurely task place point (Wait future true at) = IsTrue (is_at at place) → SurelyOut task.body point future
JoinsSurely task place point (Wait future false at) = Unit {0}

-- if this is a spawn whose future's name is at the place, the future is not out
abbrev pub SpawnsAnew : Decl → Place → ℕ → ActKind → Type 0
SpawnsAnew task place point (Touch effect at) = Unit {0}
SpawnsAnew task place point (Call effects at) = Unit {0}
SpawnsAnew task place point (Make future true deterministic effects future_place at) =
    IsTrue (is_at future_place place) → ¬ MayBeOut task.body point future
SpawnsAnew task place point (Make future false deterministic effects future_place at) = Unit {0}
SpawnsAnew task place point (Wait future join at) = Unit {0}

-- if the task is deterministic, this is nothing at the place whose order is open
abbrev pub KeepsOrder : Decl → Place → ActKind → Type 0
KeepsOrder task place kind =
    IsTrue task.deterministic → (has_open_order place true kind ≡ false) × (has_open_order place false kind ≡ false)

-- if the task is deterministic, this is no spawn at the place of a task that was not declared so
abbrev pub SpawnsAlike : Decl → Place → ActKind → Type 0
SpawnsAlike task place kind = IsTrue task.deterministic → spawns_other place kind ≡ false

-- by this act the declaration does not fail the rule at the place
abbrev pub IsKept : Program → ERule → Place → Decl → Act → Type 0
IsKept p E1 place decl act = IsCoveredFor p E1 place decl act
IsKept p E2 place decl act = IsCoveredFor p E2 place decl act
IsKept p E3 place decl act = IsCoveredFor p E3 place decl act
IsKept p E4 place decl act = JoinsSurely decl place act.point act.kind
IsKept p E5 place decl act = SpawnsAnew decl place act.point act.kind
IsKept p E6 place decl act = KeepsOrder decl place act.kind
IsKept p E7 place decl act = SpawnsAlike decl place act.kind
IsKept p E8 place decl act = IsDeclaredFor true E8 place decl act.kind

-- the declaration does not fail the rule at the place
abbrev pub KeepsThere : Program → ERule → Place → Decl → Type 0
KeepsThere p rule place decl = All (IsKept p rule place decl) (acts_in_all p decl.body.block)
