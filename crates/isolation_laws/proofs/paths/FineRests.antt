-- The rest of a body is fine for some effects if all statements on each quiet path from there spare them. A quiet path
-- has no task operation.
use Rattle.std.proofs.Common.{ℕ, zero, suc, List, inl, inr, sym, subst}
use Rattle.std.specs.List.{AllByRecursion}
use Rattle.effect_sets.specs.declared.effects.Effect.{Effect}
use Rattle.twe_program.specs.Fitting.{ArmsFit, Scope, StatementFits, StatementsFit}
use Rattle.twe_program.specs.Program.{Program}
use Rattle.twe_program.specs.Statement.{Statement, Block, If, While, Return, Statements, no_more, statement, Arms, arm, otherwise, no_else}
use Rattle.cover_flow.specs.ControlPath.{Path}
use Rattle.cover_flow.specs.Steps.{IsBranch, Steps, StepsFar, StepsOn, followed_by}
use Rattle.effect_check.specs.declared.act.Act.{Act}
use Rattle.effect_check.specs.declared.act.ActKind.{ActKind}
use Rattle.effect_check.specs.declared.act.ActKind.TheVariants as kinds
use Rattle.effect_check.proofs.Members.{IsIn}
use Rattle.machine_state.specs.segment_laws.Passes.{Quietly}
use Rattle.machine_state.proofs.segment_laws.Quiet.{Leads, quietly_joined, stays}
use Rattle.isolation_laws.proofs.paths.OwnActs.{own_acts}
use Rattle.isolation_laws.proofs.effects.Sparing.{EffectSpares}

-- if a body is well formed, so is its rest after a path
module _ (scope : Scope) where
  fit_both : (body others : Statements) → StatementsFit scope body → StatementsFit scope others → StatementsFit scope (followed_by body others)
  fit_both no_more others h k = k
  fit_both (statement first more) others h k = (h.0, fit_both more others h.1 k)

  fit_branch : (arms : Arms) (taken : Statements) → ArmsFit scope arms → IsBranch arms taken → StatementsFit scope taken
  fit_branch no_else taken h is = subst (StatementsFit scope) (sym is) tt
  fit_branch (otherwise body) taken h is = subst (StatementsFit scope) (sym is) h
  fit_branch (arm condition body others) taken h (inl here) = subst (StatementsFit scope) (sym here) h.1
  fit_branch (arm condition body others) taken h (inr there) = fit_branch others taken h.2 there

  fit_on : (first : Statement) (others : Statements) (path : Path) (left : Statements) (later : Path) → StepsOn first others path left later
      → StatementFits scope first → StatementsFit scope others → StatementsFit scope left
  fit_on (Block point body) others path left later s h k = subst (StatementsFit scope) (sym s.0) (fit_both body others h k)
  fit_on (If point arms) others path left later s h k = subst (StatementsFit scope) (sym s.2) (fit_both s.0 others (fit_branch arms s.0 h s.1) k)
  fit_on (While point condition body place) others path left later s h k = elim s.0 [
    | inl past ↦ subst (StatementsFit scope) (sym past) k
    | inr turn ↦ subst (StatementsFit scope) (sym turn) (fit_both body (statement (While point condition body place) others) h.1 (h, k))
  ]
  fit_on (Return point value) others path left later s h k = subst (StatementsFit scope) (sym s.0) tt
  fit_on first others path left later s h k = subst (StatementsFit scope) (sym s.0) k

  fit_step : (from : Statements) (path : Path) (left : Statements) (later : Path) → Steps from path left later → StatementsFit scope from → StatementsFit scope left
  fit_step no_more path left later s h = absurd s
  fit_step (statement first others) path left later s h = fit_on first others path left later s h.0 h.1

  pub fit_far : (n : ℕ) (from : Statements) (path : Path) (left : Statements) (later : Path) → StepsFar n from path left later → StatementsFit scope from → StatementsFit scope left
  fit_far zero from path left later s h = subst (StatementsFit scope) (sym s.0) h
  fit_far (suc n) from path left later s h = fit_far n s.0 s.1 left later s.3 (fit_step from path s.0 s.1 s.2 h)

-- an act spares the effects if each effect that it has on the world does
abbrev pub ActSpares : List Effect → ActKind → Type 0
ActSpares es (kinds.Touch effect place) = EffectSpares es effect
ActSpares es (kinds.Call effects place) = (e : Effect) → IsIn e effects.effects → EffectSpares es e
ActSpares es (kinds.Make future spawned deterministic effects future_place place) = Unit {0}
ActSpares es (kinds.Wait future join place) = Unit {0}

abbrev pub AllSpare : List Effect → List Act → Type 0
AllSpare es acts = AllByRecursion (λ (act : Act). ActSpares es act.kind) acts

-- the rest of the body is well formed, and for some path that leads there each statement that a quiet path reaches from
-- it spares the effects itself
pub record Fine (p : Program) (scope : Scope) (es : List Effect) (from : Statements) : Type 0 where
  pub path : Path
  pub fits : StatementsFit scope from
  pub own : (first : Statement) (others : Statements) (later : Path) → Quietly from path (statement first others) later → AllSpare es (own_acts p first)

module _ (p : Program) (scope : Scope) (es : List Effect) where
  -- the first statement spares them, and what is left after a quiet path is fine
  pub fine_own : (first : Statement) (others : Statements) → Fine p scope es (statement first others) → AllSpare es (own_acts p first)
  fine_own first others fine = fine.own first others fine.path (stays (statement first others) fine.path)

  pub fine_later : (from next : Statements) → Leads from next → Fine p scope es from → Fine p scope es next
  fine_later from next leads fine =
      let far = leads fine.path in record {
        path = far.0;
        fits = fit_far scope far.1.steps from fine.path next far.0 far.1.far fine.fits;
        own = λ first others later q. fine.own first others later (quietly_joined from fine.path next far.0 (statement first others) later far.1 q);
      }
