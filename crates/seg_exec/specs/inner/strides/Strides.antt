-- Several steps of the evaluator at once, over any implementation of cells.
use Rattle.std.specs.Prelude.{◌≡◌, ◌<◌, ◌≤◌, ℕ, ℤ, List, ◌∷◌, Option, None, Some, Result, Ok, Err}
use Rattle.twe_base.specs.declared.place.Place.{Place}
use Rattle.twe_program.specs.Program.{Program}
use Rattle.twe_program.specs.Expression.{Expression}
use Rattle.seg_meaning.specs.declared.active.ActiveCall.{ActiveCall}
use Rattle.seg_meaning.specs.declared.fault.FaultCause.{FaultCause}
use Rattle.seg_meaning.specs.declared.fault.FaultCause.TheVariants.{DivZero}
use Rattle.seg_exec.specs.declared.steps.machine.Machine.{Machine}
use Rattle.seg_exec.specs.declared.steps.request.Ending.{Ending}
use Rattle.seg_exec.specs.declared.steps.request.Ending.TheVariants.{Faulted}
use Rattle.seg_exec.specs.declared.strides.value.Fault.{Fault}
use Rattle.seg_meaning.specs.Access.{Access, HasRead, Ways, ways_of}
use Rattle.seg_exec.specs.inner.steps.Continuations.{Continuation, Evaluate, to_do, with_operand}
use Rattle.seg_exec.specs.inner.steps.Reached.{Finishes, MayGoOn, Reaches, Standing, standing}
use Rattle.seg_exec.specs.inner.steps.Sizes.{size_of_work}

-- some steps: whatever run led to the first standing leads to the second. They take fuel or leave less work.
pub record Goes {C : Type 0} (p : Program) (ways : Ways C) (old new : Standing C) : Type 0 where
  pub on : (start : Standing C) → Reaches p ways start old → Reaches p ways start new
  pub fuel : new.config.fuel ≤ old.config.fuel
  pub less : new.config.fuel ≡ old.config.fuel → size_of_work new.config.work < size_of_work old.config.work

-- some steps or none: whatever run led to the first standing leads to the second
pub record Nears {C : Type 0} (p : Program) (ways : Ways C) (old new : Standing C) : Type 0 where
  pub on : (start : Standing C) → Reaches p ways start old → Reaches p ways start new
  pub fuel : new.config.fuel ≤ old.config.fuel
  pub less : new.config.fuel ≡ old.config.fuel → size_of_work new.config.work ≤ size_of_work old.config.work

-- some steps, the last of which is the end
abbrev pub Ends : {C : Type 0} → Program → Ways C → Standing C → Ending → Standing C → Type 0
Ends {C = C} p ways old ending new = (start : Standing C) → Reaches p ways start old → Finishes p ways start ending new

-- some steps, up to the end if there is an ending
abbrev pub Carries : {C : Type 0} → Program → Ways C → Standing C → Option Ending → Standing C → Type 0
Carries p ways old None new = Goes p ways old new
Carries p ways old (Some ending) new = Ends p ways old ending new

-- a run that the implementation allows came here
pub record MayGo {C : Type 0} (p : Program) (ways : Ways C) (now : Standing C) : Type 0 where
  pub start : Standing C
  pub may : MayGoOn p ways start
  pub came : Reaches p ways start now

-- with one thing more to be done
abbrev pub doing : {C : Type 0} → Continuation → Standing C → Standing C
doing task s = record s { config = to_do task s.config }

-- with one value more on the operand stack
abbrev pub holding : {C : Type 0} → ℤ → Standing C → Standing C
holding value s = record s { config = with_operand value s.config }

-- a run that the implementation allows came to a machine, cells and printed numbers with this to be done
abbrev pub MayStride : {C : Type 0} → Program
    → (C → ℕ → Option ℤ) → (C → ℕ → Type 0) → (C → ℕ → Type 0) → (C → Access → C → Type 0)
    → Continuation → Machine → C → List ℤ → Type 0
MayStride p known may_read may_write rule task machine cells prints =
    MayGo p (ways_of known may_read may_write rule) (doing task (standing machine cells prints))

-- this is done, in some steps: up to the end if there is an ending
abbrev pub Strides : {C : Type 0} → Program
    → (C → ℕ → Option ℤ) → (C → ℕ → Type 0) → (C → ℕ → Type 0) → (C → Access → C → Type 0)
    → Continuation → Machine → C → List ℤ → Machine → C → List ℤ → Option Ending → Type 0
Strides p known may_read may_write rule task machine cells prints machine' cells' prints' = λ ending.
    Carries p (ways_of known may_read may_write rule)
    (doing task (standing machine cells prints)) ending (standing machine' cells' prints')

-- a standing by its parts
abbrev pub stand : {C : Type 0} → List Continuation → List ℤ → List ℤ → ℕ → List ActiveCall → C → List ℤ → Standing C
stand work operands vars fuel calls cells prints = record {
  config = record { work = work; operands = operands; vars = vars; fuel = fuel; calls = calls };
  cells = cells;
  prints = prints;
}

-- the end with a fault
abbrev pub fault_ending : Fault → Ending
fault_ending fault = Faulted fault.cause fault.place

-- a value comes onto the operand stack, or a fault is met
abbrev pub Gives : {C : Type 0} → Program → Ways C → Standing C
    → List Continuation → List ℤ → List ℤ → ℕ → List ActiveCall → List ℤ → Result ℤ Fault → C → Type 0
Gives p ways old work operands vars fuel calls prints (Ok value) new =
    Goes p ways old (stand work (value ∷ operands) vars fuel calls new prints)
Gives p ways old work operands vars fuel calls prints (Err fault) new =
    Ends p ways old (fault_ending fault) (stand work operands vars fuel calls new prints)

-- an expression has a value or meets a fault, whatever else is to be done
abbrev pub EvaluatesTo : {C : Type 0} → Program → Ways C → Expression → List ℤ → C → Result ℤ Fault → C → Type 0
EvaluatesTo p ways e vars old result new =
    (work : List Continuation) (operands : List ℤ) (fuel : ℕ) (calls : List ActiveCall) (prints : List ℤ)
    → Gives p ways (stand (Evaluate e ∷ work) operands vars fuel calls old prints) work operands vars fuel calls prints result new

-- a run that the implementation allows came to the evaluation of an expression
pub record MayEvaluate {C : Type 0} (p : Program) (ways : Ways C) (e : Expression) (vars : List ℤ) (cells : C) : Type 0 where
  pub work : List Continuation
  pub operands : List ℤ
  pub fuel : ℕ
  pub calls : List ActiveCall
  pub prints : List ℤ
  pub may : MayGo p ways (stand (Evaluate e ∷ work) operands vars fuel calls cells prints)

-- the value of an operator that was applied; a fault if it divides by zero
abbrev pub quotient_or : Option ℤ → Place → Result ℤ Fault
quotient_or None place = Err (record { cause = DivZero; place = place })
quotient_or (Some value) place = Ok value

-- the implementation allows the read of an element, if there is such an element
abbrev pub MayReadAt : {C : Type 0} → Ways C → C → Option ℕ → Type 0
MayReadAt ways cells cell = (k : ℕ) → cell ≡ Some k → ways.may_read cells k

-- the read of an element; a fault with this cause if there is no such element
abbrev pub ReadsAt : {C : Type 0} → Ways C → Option ℕ → FaultCause → Place → C → Result ℤ Fault → C → Type 0
ReadsAt ways None missing place old result new = (result ≡ Err (record { cause = missing; place = place })) × (new ≡ old)
ReadsAt ways (Some cell) missing place old result new = (value : ℤ) × (result ≡ Ok value) × HasRead ways old cell value new
