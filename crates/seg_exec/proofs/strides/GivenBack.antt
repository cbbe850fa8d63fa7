-- The return of a value past what follows in the block.
use Rattle.std.proofs.Common.{◌≡◌, ℕ, List, Ok, refl, sym, subst}
use Rattle.std.specs.Prelude.{ℤ}
use Rattle.twe_program.specs.Program.{Program}
use Rattle.twe_program.specs.Expression.{Expression}
use Rattle.twe_program.specs.Statement.{Statements}
use Rattle.seg_meaning.specs.Access.{Ways}
use Rattle.seg_exec.specs.inner.steps.Continuations.{Config, Evaluate, Rest, Unwind, to_do, with_operand}
use Rattle.seg_exec.specs.inner.steps.Reached.{Standing}
use Rattle.seg_exec.specs.inner.strides.Strides.{EvaluatesTo, Goes, doing}
use Rattle.seg_exec.proofs.strides.Performing.{goes_value, placed}
use Rattle.seg_exec.proofs.strides.Strides.{silent, then_goes}

module _ {C : Type 0} (p : Program) (ways : Ways C) (block at : ℕ) (stmts : Statements) (e : Expression) where
  -- before the value, with the rest of the block below it
  abbrev pub returning_from : Config → C → List ℤ → Standing C
  returning_from config cells prints = doing (Evaluate e) (doing Unwind (doing (Rest block at stmts) (placed config cells prints)))

  pub given_past : (vars : List ℤ) (old mid : Config) (cells cells' : C) (prints : List ℤ) (value : ℤ) → vars ≡ old.vars → EvaluatesTo p ways e vars cells (Ok value) cells'
      → mid ≡ with_operand value old → Goes p ways (returning_from old cells prints) (doing Unwind (placed mid cells' prints))
  given_past vars old mid cells cells' prints value same has is =
      subst (λ (c : Config). Goes p ways (returning_from old cells prints) (doing Unwind (placed c cells' prints))) (sym is)
      (then_goes p ways (returning_from old cells prints) (placed (with_operand value (to_do Unwind (to_do (Rest block at stmts) old))) cells' prints) (doing Unwind (placed (with_operand value old) cells' prints))
      (goes_value p ways e vars (to_do Unwind (to_do (Rest block at stmts) old)) cells cells' prints value same has)
      (silent p ways (placed (with_operand value (to_do Unwind (to_do (Rest block at stmts) old))) cells' prints) (to_do Unwind (with_operand value old)) refl))
