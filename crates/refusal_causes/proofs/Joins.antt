-- What the facts of a body say of its joins and spawns.
use Rattle.std.proofs.Common.{◌≡◌, ◌∙◌, ◌-◌, ℕ, Bool, true, false, sym, subst, arith}
use Rattle.std.specs.Prelude.{nat_le, nat_lt}
use Rattle.std.proofs.lemmas.Bool.{and_from, le-leb, lt-ltb, false≢true}
use Rattle.twe_base.specs.declared.place.Place.{Place}
use Rattle.effect_sets.specs.declared.effects.Summary.{Summary}
use Rattle.twe_program.specs.declared.program.Decl.{Decl}
use Rattle.twe_program.specs.Program.{Program}
use Rattle.twe_program.specs.WellFormed.{DeclFits}
use Rattle.cover_flow.specs.declared.answers.Points.{Points}
use Rattle.cover_flow.specs.Flow.{IsFlowOf, is_among, may_at, surely_at}
use Rattle.cover_flow.specs.Out.{MayBeOut, SurelyOut}
use Rattle.effect_check.specs.declared.act.Act.{Act}
use Rattle.effect_check.specs.declared.act.ActKind.{ActKind}
use Rattle.effect_check.specs.declared.act.ActKind.TheVariants.{Touch, Call, Make, Wait}
use Rattle.effect_check.specs.Covered.{Does}
use Rattle.refusal_causes.specs.Causes.{IsMadeAt}
use Rattle.refusal_causes.specs.inner.Keeping.{IsDone, IsMaking, JoinsSurely, SpawnsAnew}
use Rattle.refusal_causes.proofs.Covering.{in_range}

among : (n : ℕ) → is_among n n ≡ true
among n = and_from (nat_le n n) (nat_lt (n - n) 128) (le-leb n n (omega arith)) (lt-ltb (n - n) 128 (omega arith))

followed : (points : Points) (future : ℕ) → points.first ≡ future → is_among points.first future ≡ true
followed points future first = subst (λ n. is_among n future ≡ true) (sym first) (among future)

module _ (p : Program) (task : Decl) (fits : DeclFits p task) (points : Points) (facts : IsFlowOf points task.body) (future : ℕ)
    (first : points.first ≡ future) (point : ℕ) where
  -- a join
  module _ (join : Bool) (at : Place) (does : Does p task point (Wait future join at)) where
    pub surely_out : surely_at points point future ≡ true → SurelyOut task.body point future
    surely_out e =
        let within = in_range p task fits point (Wait future join at) does in
        (facts.surely point future within.0 within.1 (followed points future first)).0 e

    pub not_surely_out : surely_at points point future ≡ false → ¬ SurelyOut task.body point future
    not_surely_out e out =
        let within = in_range p task fits point (Wait future join at) does in
        false≢true (sym e ∙ (facts.surely point future within.0 within.1 (followed points future first)).1 out)

  -- a spawn
  module _ (spawned deterministic : Bool) (effects : Summary) (at place : Place)
      (does : Does p task point (Make future spawned deterministic effects at place)) where
    pub may_be_out : may_at points point future ≡ true → MayBeOut task.body point future
    may_be_out e =
        let within = in_range p task fits point (Make future spawned deterministic effects at place) does in
        (facts.may point future within.0 within.1 (followed points future first)).0 e

    pub not_out : may_at points point future ≡ false → ¬ MayBeOut task.body point future
    not_out e out =
        let within = in_range p task fits point (Make future spawned deterministic effects at place) does in
        false≢true (sym e ∙ (facts.may point future within.0 within.1 (followed points future first)).1 out)

-- a wait whose future is surely out keeps the rule on joins
pub joins_surely : (task : Decl) (place : Place) (point future : ℕ) (join : Bool) (at : Place) → SurelyOut task.body point future
    → JoinsSurely task place point (Wait future join at)
joins_surely task place point future true at out = λ _. out
joins_surely task place point future false at out = tt

-- what makes a task whose future is not out keeps the rule on spawns
pub spawns_anew : (task : Decl) (place : Place) (point future : ℕ) (spawned deterministic : Bool) (effects : Summary) (at task_place : Place)
    → ¬ MayBeOut task.body point future → SpawnsAnew task place point (Make future spawned deterministic effects at task_place)
spawns_anew task place point future true deterministic effects at task_place none = λ _. none
spawns_anew task place point future false deterministic effects at task_place none = tt

-- an act of the task that makes the future's task
pub made_by : (p : Program) (task : Decl) (act : Act) (wanted : ℕ) → IsDone p task act → (place : Place) → IsMaking wanted place act.kind
    → IsMadeAt p task wanted place
made_by p task act wanted done place making = by_kind act.kind done making where
  by_kind : (kind : ActKind) → Does p task act.point kind → IsMaking wanted place kind → IsMadeAt p task wanted place
  by_kind (Touch effect at) does is = absurd is
  by_kind (Call effects at) does is = absurd is
  by_kind (Make future spawned deterministic effects future_place at) does is = record {
    at = act.point;
    spawned = spawned;
    deterministic = deterministic;
    effects = effects;
    place = at;
    makes = subst (λ (q : Place). Does p task act.point (Make wanted spawned deterministic effects q at)) is.1
        (subst (λ (f : ℕ). Does p task act.point (Make f spawned deterministic effects future_place at)) is.0 does);
  }
  by_kind (Wait future join at) does is = absurd is
