-- Arguments that are evaluated one after another, up to the first that calls a method.
use Rattle.std.specs.Prelude.{◌≤◌, ℕ, ℤ, List, length}
use Rattle.twe_program.specs.Expression.{Arguments, Expression, argument, arguments_of, no_more}
use Rattle.twe_program.specs.Program.{Program}
use Rattle.seg_exec.specs.declared.steps.continuation.Goal.{Goal}
use Rattle.seg_exec.specs.declared.steps.machine.Machine.{Machine}
use Rattle.seg_exec.specs.declared.strides.arguments.Evaluated.{Evaluated}
use Rattle.seg_exec.specs.declared.strides.arguments.Evaluated.TheVariants.{All, Faulted, Left}
use Rattle.seg_meaning.specs.Access.{Ways}
use Rattle.seg_exec.specs.inner.steps.Reached.{standing}
use Rattle.seg_exec.specs.inner.strides.Moving.{gathering_from}
use Rattle.seg_exec.specs.inner.strides.Strides.{Ends, MayGo, Nears, fault_ending}

-- a run that the implementation allows came to these arguments, for whatever goal
pub record MayTake {C : Type 0} (p : Program) (ways : Ways C)
    (count : ℕ) (args : Arguments) (machine : Machine) (cells : C) : Type 0 where
  pub goal : Goal
  pub prints : List ℤ
  pub may : MayGo p ways (gathering_from count args goal machine cells prints)

-- the first of the arguments have values, and those are left, whatever the goal is
abbrev pub TakesUpTo : {C : Type 0} → Program → Ways C → ℕ → Arguments → Machine → C → Arguments → Machine → C → Type 0
TakesUpTo p ways count args old cells left new cells' =
    (goal : Goal) (prints : List ℤ)
    → Nears p ways (gathering_from count args goal old cells prints) (gathering_from count left goal new cells' prints)

-- all arguments have values, or those before one that calls a method, or one meets a fault, whatever the goal is
abbrev pub Takes : {C : Type 0} → Program → Ways C → ℕ → List Expression → Machine → C → Evaluated → Machine → C → Type 0
Takes p ways count args old cells All new cells' =
    (count ≤ length new.vars.active) × TakesUpTo p ways count (arguments_of args) old cells no_more new cells'
Takes p ways count args old cells (Left first others) new cells' =
    (count ≤ length new.vars.active)
    × TakesUpTo p ways count (arguments_of args) old cells (argument first.now (arguments_of others.now)) new cells'
Takes p ways count args old cells (Faulted fault) new cells' =
    (goal : Goal) (prints : List ℤ)
    → Ends p ways (gathering_from count (arguments_of args) goal old cells prints) (fault_ending fault)
    (standing new cells' prints)
