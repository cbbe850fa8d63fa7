-- Assignments of a block that are carried out at once, whatever else is to be done.
use Rattle.std.specs.Prelude.{◌<◌, ◌≤◌, ℕ, ℤ, List, ◌∷◌, drop, length}
use Rattle.twe_program.specs.Program.{Program}
use Rattle.twe_program.specs.Statement.{Statement, statements_of}
use Rattle.seg_meaning.specs.declared.active.ActiveCall.{ActiveCall}
use Rattle.seg_exec.specs.declared.strides.carry.CarriedOut.{CarriedOut}
use Rattle.seg_exec.specs.declared.strides.carry.CarriedOut.TheVariants.{Done, Faulted, Left}
use Rattle.seg_meaning.specs.Access.{Ways}
use Rattle.seg_exec.specs.inner.steps.Continuations.{Continuation, Rest}
use Rattle.seg_exec.specs.inner.strides.Assignments.{MayDo}
use Rattle.seg_exec.specs.inner.strides.Strides.{Ends, Goes, Nears, fault_ending, stand}

-- on top of the other frames: the statements of a block are to be executed from the one at this index on
abbrev pub resting : ℕ → ℕ → List Statement → List Continuation → List Continuation
resting block at stmts work = Rest block at (statements_of (drop at stmts)) ∷ work

-- a run that the implementation allows came to the statements of a block from the one at this index on
pub record MayCarry {C : Type 0} (p : Program) (ways : Ways C)
    (at : ℕ) (stmts : List Statement) (vars : List ℤ) (cells : C) : Type 0 where
  pub block : ℕ
  pub may : MayDo p ways (resting block at stmts) vars cells

-- the statements of a block before the one at the index `next` are done, whatever else is to be done
abbrev pub ComesBefore : {C : Type 0} → Program → Ways C → ℕ → List Statement → List ℤ → C → ℕ → List ℤ → C → Type 0
ComesBefore p ways at stmts vars old next vars' new =
    (block : ℕ) (work : List Continuation) (operands : List ℤ) (fuel : ℕ) (calls : List ActiveCall) (prints : List ℤ)
    → Nears p ways (stand (resting block at stmts work) operands vars fuel calls old prints)
    (stand (resting block next stmts work) operands vars' fuel calls new prints)

-- all statements of a block are done, or one meets a fault, or those before one are done, whatever else is to be done
abbrev pub CarriesOut : {C : Type 0} → Program → Ways C → ℕ → List Statement → List ℤ → C → CarriedOut → List ℤ → C → Type 0
CarriesOut p ways at stmts vars old Done vars' new =
    (block : ℕ) (work : List Continuation) (operands : List ℤ) (fuel : ℕ) (calls : List ActiveCall) (prints : List ℤ)
    → Goes p ways (stand (resting block at stmts work) operands vars fuel calls old prints)
    (stand work operands vars' fuel calls new prints)
CarriesOut p ways at stmts vars old (Faulted fault) vars' new =
    (block : ℕ) (work : List Continuation) (operands : List ℤ) (fuel : ℕ) (calls : List ActiveCall) (prints : List ℤ)
    → Ends p ways (stand (resting block at stmts work) operands vars fuel calls old prints) (fault_ending fault)
    (stand work operands vars' fuel calls new prints)
CarriesOut p ways at stmts vars old (Left next) vars' new =
    (next < length stmts) × ComesBefore p ways at stmts vars old next vars' new × (at ≤ next)
