-- Assignments that are carried out at once, whatever else is to be done.
use Rattle.std.specs.Prelude.{◌≡◌, false, ℕ, ℤ, List, ◌∷◌, Option, None, Some}
use Rattle.twe_base.specs.declared.place.Place.{Place}
use Rattle.twe_program.specs.Program.{Program}
use Rattle.twe_program.specs.Expression.{Expression}
use Rattle.twe_program.specs.Statement.{Statement}
use Rattle.seg_meaning.specs.declared.active.ActiveCall.{ActiveCall}
use Rattle.seg_meaning.specs.declared.fault.FaultCause.{FaultCause}
use Rattle.seg_exec.specs.declared.strides.assign.Carried.{Carried}
use Rattle.seg_exec.specs.declared.strides.assign.Carried.TheVariants.{Done, Faulted, Left}
use Rattle.seg_exec.specs.declared.strides.assign.Target.{Target}
use Rattle.seg_exec.specs.declared.strides.assign.Target.TheVariants.{Var, Cell}
use Rattle.seg_meaning.specs.Access.{HasWritten, Ways}
use Rattle.seg_exec.specs.inner.steps.Continuations.{Continuation, Evaluate, Execute, GiveVar, GiveCell, GiveElement}
use Rattle.seg_exec.specs.inner.steps.Steps.{is_return}
use Rattle.seg_exec.specs.inner.strides.Strides.{Ends, Goes, MayGo, fault_ending, stand}

-- on top of the other frames: a statement is to be executed
abbrev pub executing : Statement → List Continuation → List Continuation
executing s work = Execute s ∷ work

-- the latest value is to be given to a variable or a cell
abbrev pub giving_to : Target → Continuation
giving_to (Var var) = GiveVar var
giving_to (Cell cell) = GiveCell cell

-- on top of the other frames: the value of an expression is to be given to a variable or a cell
abbrev pub to_target : Expression → Target → List Continuation → List Continuation
to_target value target work = Evaluate value ∷ (giving_to target ∷ work)

-- on top of the other frames: the value of an expression is to be given to the element at an index
abbrev pub to_element : Expression → Expression → ℕ → Place → List Continuation → List Continuation
to_element index value array place work = Evaluate index ∷ (Evaluate value ∷ (GiveElement array place ∷ work))

-- a run that the implementation allows came to these frames
pub record MayDo {C : Type 0} (p : Program) (ways : Ways C)
    (tasks : List Continuation → List Continuation) (vars : List ℤ) (cells : C) : Type 0 where
  pub work : List Continuation
  pub operands : List ℤ
  pub fuel : ℕ
  pub calls : List ActiveCall
  pub prints : List ℤ
  pub may : MayGo p ways (stand (tasks work) operands vars fuel calls cells prints)

-- these frames are done, or they meet a fault, whatever else is to be done; or they are left, and nothing has changed
abbrev pub Does : {C : Type 0} → Program → Ways C
    → (List Continuation → List Continuation) → List ℤ → C → Carried → List ℤ → C → Type 0
Does p ways tasks vars old Done vars' new =
    (work : List Continuation) (operands : List ℤ) (fuel : ℕ) (calls : List ActiveCall) (prints : List ℤ)
    → Goes p ways (stand (tasks work) operands vars fuel calls old prints) (stand work operands vars' fuel calls new prints)
Does p ways tasks vars old (Faulted fault) vars' new =
    (work : List Continuation) (operands : List ℤ) (fuel : ℕ) (calls : List ActiveCall) (prints : List ℤ)
    → Ends p ways (stand (tasks work) operands vars fuel calls old prints) (fault_ending fault)
    (stand work operands vars' fuel calls new prints)
Does p ways tasks vars old Left vars' new = (vars' ≡ vars) × (new ≡ old)

-- a statement that is done is no return
abbrev pub Stays : Statement → Carried → Type 0
Stays s Done = is_return s ≡ false
Stays s (Faulted fault) = Unit {0}
Stays s Left = Unit {0}

-- the implementation allows the write of an element, if there is such an element
abbrev pub MayWriteAt : {C : Type 0} → Ways C → C → Option ℕ → Type 0
MayWriteAt ways cells cell = (k : ℕ) → cell ≡ Some k → ways.may_write cells k

-- the write of an element; a fault with this cause if there is no such element
abbrev pub WritesAt : {C : Type 0} → Ways C → Option ℕ → FaultCause → ℤ → Place → C → Carried → C → Type 0
WritesAt ways None missing value place old result new =
    (result ≡ Faulted (record { cause = missing; place = place })) × (new ≡ old)
WritesAt ways (Some cell) missing value place old result new = (result ≡ Done) × HasWritten ways old cell value new
