-- Runs of the evaluator over any implementation of cells.
use Rattle.std.specs.Prelude.{◌<◌, Bool, true, false, ◌||◌, length, nat_eq, slice_get, ◌≡◌, ℕ, ℤ, List, [], ◌∷◌, ◌++◌, Option, None, Some}
use Rattle.twe_program.specs.Program.{Program}
use Rattle.seg_exec.specs.declared.steps.request.Request.{Request}
use Rattle.seg_exec.specs.declared.steps.request.Request.TheVariants.{Nothing, Read, Write, Print, End}
use Rattle.seg_exec.specs.declared.steps.request.Ending.{Ending}
use Rattle.seg_exec.specs.declared.steps.continuation.Continuation.{Continuation as Held}
use Rattle.seg_exec.specs.declared.steps.machine.Machine.{Machine}
use Rattle.seg_meaning.specs.Access.{Access, Reads, Writes, Prints, Agrees, Follows, HasRead, HasWritten, MayAll, MaySame, Ways, after, printed, value_in}
use Rattle.seg_meaning.specs.Store.{Store}
use Rattle.seg_exec.specs.inner.steps.Continuations.{Config, with_operand}
use Rattle.seg_exec.specs.inner.steps.Steps.{step_of}
use Rattle.seg_exec.specs.inner.steps.Runs.{Moment, Over, Comes, run, store_of}
use Rattle.seg_exec.specs.inner.steps.Views.{config_before, config_of, config_with}

-- the evaluator over a list of cells after some accesses
abbrev pub over : Config → List ℤ → List Access → Moment
over c cells accesses = record { config = c; cells = after cells accesses; accesses = accesses }

-- the state of the evaluator, the cells, and the numbers that were printed
pub record Standing (C : Type 0) : Type 0 where
  pub config : Config
  pub cells : C
  pub prints : List ℤ

-- the same of a machine
abbrev pub standing : {C : Type 0} → Machine → C → List ℤ → Standing C
standing machine cells prints = record { config = config_of machine; cells = cells; prints = prints }

-- the same with a frame that was taken from the machine
abbrev pub standing_with : {C : Type 0} → Held → Machine → C → List ℤ → Standing C
standing_with work machine cells prints = record { config = config_with work machine; cells = cells; prints = prints }

-- the same of a machine whose active body has only its first variables, so many
abbrev pub standing_before : {C : Type 0} → ℕ → Machine → C → List ℤ → Standing C
standing_before count machine cells prints = record { config = config_before count machine; cells = cells; prints = prints }

-- the implementation allows what a step requests
abbrev pub MayRequest : {C : Type 0} → Ways C → C → Request → Type 0
MayRequest ways cells Nothing = Unit {0}
MayRequest ways cells (Read cell) = ways.may_read cells cell
MayRequest ways cells (Write cell value) = ways.may_write cells cell
MayRequest ways cells (Print value) = Unit {0}
MayRequest ways cells (End ending) = Unit {0}

-- the implementation allows what the next step requests
abbrev pub MayStep : {C : Type 0} → Program → Ways C → Standing C → Type 0
MayStep p ways s = MayRequest ways s.cells (step_of p s.config).0

-- a request is served, or it is the end
abbrev pub Served : {C : Type 0} → Ways C → Request → Standing C → Option Ending → Standing C → Type 0
Served ways Nothing old ending new = (ending ≡ None) × (new ≡ old)
Served ways (Read cell) old ending new =
    (value : ℤ) × (ending ≡ None) × (new.config ≡ with_operand value old.config)
    × HasRead ways old.cells cell value new.cells × (new.prints ≡ old.prints)
Served ways (Write cell value) old ending new =
    (ending ≡ None) × (new.config ≡ old.config) × HasWritten ways old.cells cell value new.cells × (new.prints ≡ old.prints)
Served ways (Print value) old ending new = (ending ≡ None) × (new ≡ record old { prints = old.prints ++ value ∷ [] })
Served ways (End last) old ending new = (ending ≡ Some last) × (new ≡ old)

-- one step
abbrev pub Advances : {C : Type 0} → Program → Ways C → Standing C → Option Ending → Standing C → Type 0
Advances p ways old ending new =
    Served ways (step_of p old.config).0 (record old { config = (step_of p old.config).1 }) ending new

-- whether a cell was read or written
abbrev pub is_accessed : ℕ → List Access → Bool
is_accessed k [] = false
is_accessed k (Reads cell value ∷ earlier) = nat_eq k cell || is_accessed k earlier
is_accessed k (Writes cell value ∷ earlier) = nat_eq k cell || is_accessed k earlier
is_accessed k (Prints value ∷ earlier) = is_accessed k earlier

-- a list of cells that agrees with the accesses and with the known values of the accessed cells
pub record Witness (known : ℕ → Option ℤ) (accesses : List Access) : Type 0 where
  pub cells : List ℤ
  pub agrees : Agrees cells accesses
  pub within : (k : ℕ) → is_accessed k accesses ≡ true → k < length cells
  pub knows : (k : ℕ) → is_accessed k accesses ≡ true → known k ≡ Some (value_in (slice_get (after cells accesses) k))

-- some steps: each access follows the rule, and over each list of cells that agrees with the accesses the evaluator
-- makes the same steps
pub record Reaches {C : Type 0} (p : Program) (ways : Ways C) (old new : Standing C) : Type 0 where
  pub accesses : List Access
  pub follows : Follows ways.rule old.cells accesses new.cells
  pub prints : new.prints ≡ old.prints ++ printed accesses
  pub same : MaySame ways old.cells new.cells
  pub witness : Witness (ways.known new.cells) accesses
  pub comes : (cells : List ℤ) → Agrees cells accesses → Comes p (over old.config cells []) (over new.config cells accesses)

-- over each list of cells the evaluator ends, and the implementation allows all its accesses
abbrev pub MayGoOn : {C : Type 0} → Program → Ways C → Standing C → Type 0
MayGoOn p ways s =
    (cells : List ℤ) → (n : ℕ) × (ending : Ending) × (end : Store)
    × (run p n (over s.config cells []) ≡ Over ending end) × MayAll ways s.cells end.accesses

-- all steps, up to the end
pub record Finishes {C : Type 0} (p : Program) (ways : Ways C)
    (old : Standing C) (ending : Ending) (new : Standing C) : Type 0 where
  pub accesses : List Access
  pub follows : Follows ways.rule old.cells accesses new.cells
  pub prints : new.prints ≡ old.prints ++ printed accesses
  pub ends : (cells : List ℤ) → Agrees cells accesses
      → (n : ℕ) × (run p n (over old.config cells []) ≡ Over ending (store_of (over new.config cells accesses)))
