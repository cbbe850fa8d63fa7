-- The branch of an `if` whose conditions are evaluated at once.
use Rattle.std.specs.Prelude.{ℕ, ℤ, List, ◌∷◌, drop, Option}
use Rattle.twe_program.specs.declared.stmt.Arm.{Arm}
use Rattle.twe_program.specs.Program.{Program}
use Rattle.twe_program.specs.Statement.{Statements}
use Rattle.twe_program.specs.inner.StatementView.{arms_of}
use Rattle.seg_meaning.specs.declared.active.ActiveCall.{ActiveCall}
use Rattle.seg_exec.specs.declared.strides.pick.Picked.{Picked}
use Rattle.seg_exec.specs.declared.strides.pick.Picked.TheVariants.{Faulted, Nothing, Body, Left}
use Rattle.seg_meaning.specs.Access.{Ways}
use Rattle.seg_exec.specs.inner.steps.Continuations.{Continuation, Choose, Rest}
use Rattle.seg_exec.specs.inner.strides.Strides.{Ends, Goes, Nears, fault_ending, stand}

-- on top of the other frames: the arms of an `if` are to be tried from the one of this number on
abbrev pub choosing_at : ℕ → List Arm → Option Statements → List Continuation → List Continuation
choosing_at at arms last work = Choose at (arms_of (drop at arms) last) ∷ work

-- the same from the first arm on
abbrev pub choosing_first : List Arm → Option Statements → List Continuation → List Continuation
choosing_first arms last work = choosing_at 0 arms last work

-- the arms of an `if` are tried up to the one of this number, whatever else is to be done
abbrev pub ComesTo : {C : Type 0} → Program → Ways C → List Arm → Option Statements → List ℤ → C → ℕ → C → Type 0
ComesTo p ways arms last vars old at new =
    (work : List Continuation) (operands : List ℤ) (fuel : ℕ) (calls : List ActiveCall) (prints : List ℤ)
    → Nears p ways (stand (choosing_first arms last work) operands vars fuel calls old prints)
    (stand (choosing_at at arms last work) operands vars fuel calls new prints)

-- a branch of an `if` comes next, or none, or a condition meets a fault, whatever else is to be done
abbrev pub Picks : {C : Type 0} → Program → Ways C → List Arm → Option Statements → List ℤ → C → Picked → C → Type 0
Picks p ways arms last vars old (Faulted fault) new =
    (work : List Continuation) (operands : List ℤ) (fuel : ℕ) (calls : List ActiveCall) (prints : List ℤ)
    → Ends p ways (stand (choosing_first arms last work) operands vars fuel calls old prints) (fault_ending fault)
    (stand work operands vars fuel calls new prints)
Picks p ways arms last vars old Nothing new =
    (work : List Continuation) (operands : List ℤ) (fuel : ℕ) (calls : List ActiveCall) (prints : List ℤ)
    → Goes p ways (stand (choosing_first arms last work) operands vars fuel calls old prints)
    (stand work operands vars fuel calls new prints)
Picks p ways arms last vars old (Body number body) new =
    (work : List Continuation) (operands : List ℤ) (fuel : ℕ) (calls : List ActiveCall) (prints : List ℤ)
    → Goes p ways (stand (choosing_first arms last work) operands vars fuel calls old prints)
    (stand (Rest number 0 body.now ∷ work) operands vars fuel calls new prints)
Picks p ways arms last vars old (Left at) new = ComesTo p ways arms last vars old at new
