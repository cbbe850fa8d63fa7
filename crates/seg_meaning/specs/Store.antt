-- The state that expressions and statements work on, and how they end.
use Rattle.std.specs.Prelude.{ℕ, zero, suc, ℤ, List, ◌∷◌, slice_get, slice_set}
use Rattle.twe_base.specs.declared.place.Place.{Place}
use Rattle.seg_meaning.specs.declared.active.ActiveCall.{ActiveCall}
use Rattle.seg_meaning.specs.declared.fault.FaultCause.{FaultCause}
use Rattle.seg_meaning.specs.declared.fault.FaultCause.TheVariants.{Fuel}
use Rattle.seg_meaning.specs.declared.frame.Position.{Position}
use Rattle.seg_meaning.specs.declared.operation.Operation.{Operation}
use Rattle.seg_meaning.specs.Access.{Access, Reads, Writes, Prints, value_in}

-- the cells of the program, the parameters and locals of the active body, the fuel that is left, the active method calls
-- and the accesses of the segment so far, both the latest first
pub record Store : Type 0 where
  pub cells : List ℤ
  pub vars : List ℤ
  pub fuel : ℕ
  pub calls : List ActiveCall
  pub accesses : List Access

-- how an expression ends: with a value, or with a fault at a place of the text
pub data Given (A : Type 0) : Type 0 where
  gives : (value : A) (store : Store) → Given A
  faults : (cause : FaultCause) (place : Place) (store : Store) → Given A

-- how a statement ends
pub data Flow : Type 0 where
  -- the next statement follows
  goes : (store : Store) → Flow
  -- the body returns a value
  returns : (value : ℤ) (store : Store) → Flow
  -- a fault at a place of the text
  fails : (cause : FaultCause) (place : Place) (store : Store) → Flow
  -- a task operation; the positions of the open blocks, the outermost first, say what remains to be executed
  stops : (operation : Operation) (positions : List Position) (store : Store) → Flow

-- an expression continues with the value, unless there was a fault
abbrev pub then_give : {A B : Type 0} → Given A → (A → Store → Given B) → Given B
then_give (gives value store) next = next value store
then_give (faults cause place store) next = faults cause place store

-- a statement continues with the value, unless there was a fault
abbrev pub then_do : {A : Type 0} → Given A → (A → Store → Flow) → Flow
then_do (gives value store) next = next value store
then_do (faults cause place store) next = fails cause place store

-- continues with the next statement, unless the body returned, failed or stopped
abbrev pub then_go : Flow → (Store → Flow) → Flow
then_go (goes store) next = next store
then_go (returns value store) next = returns value store
then_go (fails cause place store) next = fails cause place store
then_go (stops operation positions store) next = stops operation positions store

-- one unit is taken from this much fuel; a fault if none is left
abbrev pub unit_of : ℕ → Place → Store → Given (Unit {0})
unit_of zero place s = faults Fuel place s
unit_of (suc left) place s = gives tt (record s { fuel = left })

-- one unit is taken from the fuel of the store
abbrev pub unit_taken : Place → Store → Given (Unit {0})
unit_taken place s = unit_of s.fuel place s

-- the value of a parameter or a local
abbrev pub var_in : ℕ → Store → ℤ
var_in var s = value_in (slice_get s.vars var)

-- a parameter or a local is given this value
abbrev pub with_var : ℕ → ℤ → Store → Store
with_var var value s = record s { vars = slice_set s.vars var value }

-- a cell is read: it gives its value, and the read is an access
abbrev pub cell_read : ℕ → Store → Given ℤ
cell_read cell s =
    let value = value_in (slice_get s.cells cell) in gives value (record s { accesses = Reads cell value ∷ s.accesses })

-- a cell is given this value, and the write is an access
abbrev pub cell_written : ℕ → ℤ → Store → Store
cell_written cell value s = record s { cells = slice_set s.cells cell value; accesses = Writes cell value ∷ s.accesses }

-- a number is printed, and the print is an access
abbrev pub number_printed : ℤ → Store → Store
number_printed value s = record s { accesses = Prints value ∷ s.accesses }
