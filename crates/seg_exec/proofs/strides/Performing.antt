-- What is done at once for a continuation frame, as steps of the evaluator.
use Rattle.std.proofs.Common.{◌≡◌, ℤ, pos, Option, None, Some, Ok, Err, List, [], refl, ap, sym, ◌∙◌, subst}
use Rattle.twe_program.specs.Program.{Program}
use Rattle.twe_program.specs.Expression.{Expression}
use Rattle.seg_exec.specs.declared.steps.request.Request.{Request}
use Rattle.seg_exec.specs.declared.steps.request.Ending.{Ending}
use Rattle.seg_exec.specs.declared.steps.request.Ending.TheVariants.{Returned}
use Rattle.seg_exec.specs.declared.strides.value.Fault.{Fault}
use Rattle.twe_base.specs.declared.place.Place.{Place}
use Rattle.twe_ast.specs.declared.expr.BinOp.{BinOp}
use Rattle.seg_meaning.specs.Access.{Ways}
use Rattle.seg_meaning.specs.Arithmetic.{decided, is_true}
use Rattle.seg_exec.specs.inner.steps.Continuations.{Apply, Config, Continuation, Evaluate, Right, to_do, top, with_operand, without_operand}
use Rattle.seg_exec.specs.inner.steps.Reached.{MayRequest, Served, Standing}
use Rattle.seg_exec.specs.inner.steps.Steps.{Step, on, right_by, worked}
use Rattle.seg_exec.specs.inner.strides.Strides.{Carries, Ends, EvaluatesTo, Goes, MayEvaluate, MayGo, doing, fault_ending}
use Rattle.seg_exec.proofs.strides.Strides.{ended, ends_alike, last_step, may_now, may_then, one_step, silent, then_carries}

-- a standing by its configuration
abbrev pub placed : {C : Type 0} → Config → C → List ℤ → Standing C
placed config cells prints = record { config = config; cells = cells; prints = prints }

-- the left operand decides, or the right one is evaluated
pub left_decides : (p : Program) (op : BinOp) (right : Expression) (place : Place) (old mid : Config) (value : ℤ) → decided op (is_true (top old.operands)) ≡ Some value
    → mid ≡ with_operand value (without_operand old) → worked p (Right op right place) old ≡ on mid
left_decides p op right place old mid value is same =
    ap (λ (d : Option ℤ). right_by d op (top old.operands) right place (without_operand old)) is ∙ ap on (sym same)

pub right_counts : (p : Program) (op : BinOp) (right : Expression) (place : Place) (old mid : Config) → decided op (is_true (top old.operands)) ≡ None
    → mid ≡ with_operand (top old.operands) (without_operand old) → worked p (Right op right place) old ≡ on (to_do (Evaluate right) (to_do (Apply op place) mid))
right_counts p op right place old mid is same =
    ap (λ (d : Option ℤ). right_by d op (top old.operands) right place (without_operand old)) is
    ∙ ap (λ (c : Config). on (to_do (Evaluate right) (to_do (Apply op place) c))) (sym same)

module _ {C : Type 0} (p : Program) (ways : Ways C) where
  -- one step and what it asks for
  pub carries_step : (task : Continuation) (old mid : Config) (cells : C) (prints : List ℤ) (request : Request) (ending : Option Ending) (new : Standing C)
      → (request, mid) ≡ worked p task old → Served ways request (placed mid cells prints) ending new → Carries p ways (doing task (placed old cells prints)) ending new
  carries_step task old mid cells prints request None new is h =
      one_step p ways (doing task (placed old cells prints)) new (subst (λ (s : Step). Served ways s.0 (placed s.1 cells prints) None new) is h)
  carries_step task old mid cells prints request (Some ending) new is h =
      last_step p ways (doing task (placed old cells prints)) new ending (subst (λ (s : Step). Served ways s.0 (placed s.1 cells prints) (Some ending) new) is h)

  pub may_request : (task : Continuation) (old mid : Config) (cells : C) (prints : List ℤ) (request : Request) → (request, mid) ≡ worked p task old
      → MayGo p ways (doing task (placed old cells prints)) → MayRequest ways cells request
  may_request task old mid cells prints request is may =
      subst (λ (s : Step). MayRequest ways cells s.0) (sym is) (may_now p ways (doing task (placed old cells prints)) may)

  -- nothing is left to be done
  pub returns_nothing : (old new : Config) (cells : C) (prints : List ℤ) → old.work ≡ [] → new ≡ record old { work = [] } → Ends p ways (placed old cells prints) (Returned (pos 0)) (placed new cells prints)
  returns_nothing old new cells prints none same =
      let emptied : Config = record old { work = [] } in
      subst (λ (c : Config). Ends p ways (placed old cells prints) (Returned (pos 0)) (placed c cells prints)) (sym same)
      (subst (λ (work : List Continuation). Ends p ways (placed (record old { work = work }) cells prints) (Returned (pos 0)) (placed emptied cells prints)) (sym none)
      (ended p ways (placed emptied cells prints) (Returned (pos 0)) emptied refl))

  -- an expression that is evaluated at once
  pub may_evaluate : (e : Expression) (vars : List ℤ) (config : Config) (cells : C) (prints : List ℤ) → vars ≡ config.vars → MayGo p ways (doing (Evaluate e) (placed config cells prints)) → MayEvaluate p ways e vars cells
  may_evaluate e vars config cells prints same may =
      subst (λ (vs : List ℤ). MayEvaluate p ways e vs cells) (sym same)
      (record { work = config.work; operands = config.operands; fuel = config.fuel; calls = config.calls; prints = prints; may = may })

  -- the same run from an equal configuration
  pub carries_from : (a b : Config) (cells : C) (prints : List ℤ) (ending : Option Ending) (new : Standing C) → b ≡ a → Carries p ways (placed b cells prints) ending new → Carries p ways (placed a cells prints) ending new
  carries_from a b cells prints ending new same h = subst (λ (c : Config). Carries p ways (placed c cells prints) ending new) same h

  pub may_from : (a b : Config) (cells : C) (prints : List ℤ) → b ≡ a → MayGo p ways (placed a cells prints) → MayGo p ways (placed b cells prints)
  may_from a b cells prints same h = subst (λ (c : Config). MayGo p ways (placed c cells prints)) (sym same) h

  pub goes_value : (e : Expression) (vars : List ℤ) (config : Config) (cells cells' : C) (prints : List ℤ) (value : ℤ) → vars ≡ config.vars → EvaluatesTo p ways e vars cells (Ok value) cells'
      → Goes p ways (doing (Evaluate e) (placed config cells prints)) (placed (with_operand value config) cells' prints)
  goes_value e vars config cells cells' prints value same has =
      let here : EvaluatesTo p ways e config.vars cells (Ok value) cells' = subst (λ (vs : List ℤ). EvaluatesTo p ways e vs cells (Ok value) cells') same has in
      here config.work config.operands config.fuel config.calls prints

  pub carries_value : (e : Expression) (vars : List ℤ) (old new : Config) (cells cells' : C) (prints : List ℤ) (value : ℤ) → vars ≡ old.vars → EvaluatesTo p ways e vars cells (Ok value) cells'
      → new ≡ with_operand value old → Carries p ways (doing (Evaluate e) (placed old cells prints)) None (placed new cells' prints)
  carries_value e vars old new cells cells' prints value same has is =
      subst (λ (c : Config). Goes p ways (doing (Evaluate e) (placed old cells prints)) (placed c cells' prints)) (sym is) (goes_value e vars old cells cells' prints value same has)

  -- with other work below it
  pub carries_fault : (e : Expression) (vars : List ℤ) (old : Config) (work : List Continuation) (cells cells' : C) (prints : List ℤ) (fault : Fault) (ending : Ending) → vars ≡ old.vars → EvaluatesTo p ways e vars cells (Err fault) cells'
      → ending ≡ fault_ending fault → Carries p ways (doing (Evaluate e) (placed (record old { work = work }) cells prints)) (Some ending) (placed old cells' prints)
  carries_fault e vars old work cells cells' prints fault ending same has is =
      let here : EvaluatesTo p ways e old.vars cells (Err fault) cells' = subst (λ (vs : List ℤ). EvaluatesTo p ways e vs cells (Err fault) cells') same has in
      let from = doing (Evaluate e) (placed (record old { work = work }) cells prints) in
      subst (λ (x : Ending). Ends p ways from x (placed old cells' prints)) (sym is)
      (ends_alike p ways from (fault_ending fault) work old.work old.operands old.operands old.vars old.fuel old.calls cells' prints (here work old.operands old.fuel old.calls prints))

  -- a value, and what comes after it
  pub may_after : (e : Expression) (vars : List ℤ) (old mid : Config) (cells cells' : C) (prints : List ℤ) (value : ℤ) → vars ≡ old.vars → EvaluatesTo p ways e vars cells (Ok value) cells'
      → mid ≡ with_operand value old → MayGo p ways (doing (Evaluate e) (placed old cells prints)) → MayGo p ways (placed mid cells' prints)
  may_after e vars old mid cells cells' prints value same has is may =
      may_then p ways (doing (Evaluate e) (placed old cells prints)) (placed mid cells' prints) may (carries_value e vars old mid cells cells' prints value same has is)

  pub carries_after : (e : Expression) (vars : List ℤ) (old mid : Config) (cells cells' : C) (prints : List ℤ) (value : ℤ) (ending : Option Ending) (new : Standing C) → vars ≡ old.vars → EvaluatesTo p ways e vars cells (Ok value) cells'
      → mid ≡ with_operand value old → Carries p ways (placed mid cells' prints) ending new → Carries p ways (doing (Evaluate e) (placed old cells prints)) ending new
  carries_after e vars old mid cells cells' prints value ending new same has is rest =
      then_carries p ways (doing (Evaluate e) (placed old cells prints)) (placed mid cells' prints) new ending (carries_value e vars old mid cells cells' prints value same has is) rest

  -- a step that asks for nothing, and what comes after it
  pub may_silent : (task : Continuation) (old mid : Config) (cells : C) (prints : List ℤ) → worked p task old ≡ on mid → MayGo p ways (doing task (placed old cells prints)) → MayGo p ways (placed mid cells prints)
  may_silent task old mid cells prints is may = may_then p ways (doing task (placed old cells prints)) (placed mid cells prints) may (silent p ways (doing task (placed old cells prints)) mid is)

  pub carries_silent : (task : Continuation) (old mid : Config) (cells : C) (prints : List ℤ) (ending : Option Ending) (new : Standing C) → worked p task old ≡ on mid
      → Carries p ways (placed mid cells prints) ending new → Carries p ways (doing task (placed old cells prints)) ending new
  carries_silent task old mid cells prints ending new is rest =
      then_carries p ways (doing task (placed old cells prints)) (placed mid cells prints) new ending (silent p ways (doing task (placed old cells prints)) mid is) rest
