-- The value of an operator, which is returned from the body.
use Rattle.std.proofs.Common.{◌≡◌, ℤ, Option, None, Some, List, ◌∷◌, ap, sym, ◌∙◌, subst}
use Rattle.twe_base.specs.Stacks.{below}
use Rattle.twe_base.specs.declared.place.Place.{Place}
use Rattle.twe_ast.specs.declared.expr.BinOp.{BinOp}
use Rattle.twe_program.specs.Program.{Program}
use Rattle.seg_meaning.specs.declared.fault.FaultCause.TheVariants.{DivZero}
use Rattle.seg_exec.specs.declared.steps.request.Ending.TheVariants.{Faulted}
use Rattle.seg_meaning.specs.Access.{Ways}
use Rattle.seg_meaning.specs.Arithmetic.{operated}
use Rattle.seg_exec.specs.inner.steps.Continuations.{Apply, Config, Unwind, to_do, top, with_operand, without_operand}
use Rattle.seg_exec.specs.inner.steps.Steps.{applied, on, worked}
use Rattle.seg_exec.specs.inner.strides.Strides.{Ends, doing}
use Rattle.seg_exec.proofs.strides.Performing.{placed}
use Rattle.seg_exec.proofs.strides.Strides.{ended, ends_alike}

-- the operator has a value
pub has_value : (p : Program) (op : BinOp) (place : Place) (old mid : Config) (value : ℤ) → operated op (top (below old.operands)) (top old.operands) ≡ Some value
    → mid ≡ with_operand value (without_operand (without_operand old)) → worked p (Apply op place) (to_do Unwind old) ≡ on (to_do Unwind mid)
has_value p op place old mid value is same =
    ap (λ (o : Option ℤ). applied o place (without_operand (without_operand (to_do Unwind old)))) is ∙ ap (λ (c : Config). on (to_do Unwind c)) (sym same)

module _ {C : Type 0} (p : Program) (ways : Ways C) where
  -- it divides by zero
  pub no_value : (op : BinOp) (place : Place) (old mid : Config) (cells : C) (prints : List ℤ) → operated op (top (below old.operands)) (top old.operands) ≡ None
      → mid ≡ without_operand (without_operand old) → Ends p ways (doing (Apply op place) (doing Unwind (placed old cells prints))) (Faulted DivZero place) (placed mid cells prints)
  no_value op place old mid cells prints is same =
      let from = doing (Apply op place) (doing Unwind (placed old cells prints)) in
      let left = without_operand (without_operand old) in
      subst (λ (c : Config). Ends p ways from (Faulted DivZero place) (placed c cells prints)) (sym same)
      (ends_alike p ways from (Faulted DivZero place) (Unwind ∷ old.work) old.work left.operands left.operands old.vars old.fuel old.calls cells prints
      (ended p ways from (Faulted DivZero place) (to_do Unwind left) (ap (λ (o : Option ℤ). applied o place (to_do Unwind left)) is)))
