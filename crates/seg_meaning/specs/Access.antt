-- What a segment does outside its task: it reads and writes cells, and prints. Lists of accesses have the latest first.
use Rattle.std.specs.Prelude.{◌≡◌, ◌↔◌, ℕ, ℤ, pos, List, [], ◌∷◌, ◌++◌, Option, None, Some, nat_eq, if◌then◌else◌, slice_get, slice_set}

-- one access of a segment: the read of a cell, the write of a cell, or the print of a number
pub data Access : Type 0 where
  -- the cell of this number is read, and has this value
  Reads : (cell : ℕ) (value : ℤ) → Access
  -- the cell of this number is given this value
  Writes : (cell : ℕ) (value : ℤ) → Access
  -- this number is printed
  Prints : (value : ℤ) → Access

-- the value of a cell that was looked up in a list; each cell of a program has one
abbrev pub value_in : Option ℤ → ℤ
value_in None = pos 0
value_in (Some value) = value

-- the cells after the accesses
abbrev pub after : List ℤ → List Access → List ℤ
after cells [] = cells
after cells (Reads cell value ∷ earlier) = after cells earlier
after cells (Writes cell value ∷ earlier) = slice_set (after cells earlier) cell value
after cells (Prints value ∷ earlier) = after cells earlier

-- the cells agree with the accesses: each read gives the value that its cell has at that moment
abbrev pub Agrees : List ℤ → List Access → Type 0
Agrees cells [] = Unit {0}
Agrees cells (Reads cell value ∷ earlier) = Agrees cells earlier × (value_in (slice_get (after cells earlier) cell) ≡ value)
Agrees cells (Writes cell value ∷ earlier) = Agrees cells earlier
Agrees cells (Prints value ∷ earlier) = Agrees cells earlier

-- the numbers that were printed, in order
abbrev pub printed : List Access → List ℤ
printed [] = []
printed (Reads cell value ∷ earlier) = printed earlier
printed (Writes cell value ∷ earlier) = printed earlier
printed (Prints value ∷ earlier) = printed earlier ++ value ∷ []

-- What an implementation of cells states: the values of the cells that are known, which cells may be read and which may
-- be written, and the rule for what an access does to it
pub record Ways (C : Type 0) : Type 1 where
  pub known : C → ℕ → Option ℤ
  pub may_read : C → ℕ → Type 0
  pub may_write : C → ℕ → Type 0
  pub rule : C → Access → C → Type 0

-- an implementation of cells by these four parts, each of which is a definition of its own
abbrev pub ways_of : {C : Type 0} → (C → ℕ → Option ℤ) → (C → ℕ → Type 0) → (C → ℕ → Type 0) → (C → Access → C → Type 0) → Ways C
ways_of known may_read may_write rule = record { known = known; may_read = may_read; may_write = may_write; rule = rule }

-- afterwards this cell is known with this value, and the others as before
abbrev pub KnowsNow : (ℕ → Option ℤ) → ℕ → ℤ → (ℕ → Option ℤ) → Type 0
KnowsNow old cell value new = (k : ℕ) → new k ≡ (if nat_eq k cell then Some value else old k)

-- the same may be read and written as before
pub record MaySame {C : Type 0} (ways : Ways C) (old new : C) : Type 0 where
  pub read : (k : ℕ) → ways.may_read old k ↔ ways.may_read new k
  pub write : (k : ℕ) → ways.may_write old k ↔ ways.may_write new k

-- a read of a cell gave this value, which is the known one if the cell was known
pub record HasRead {C : Type 0} (ways : Ways C) (old : C) (cell : ℕ) (value : ℤ) (new : C) : Type 0 where
  pub answer : (v : ℤ) → ways.known old cell ≡ Some v → value ≡ v
  pub known : KnowsNow (ways.known old) cell value (ways.known new)
  pub same : MaySame ways old new
  pub rule : ways.rule old (Reads cell value) new

-- a cell was given this value
pub record HasWritten {C : Type 0} (ways : Ways C) (old : C) (cell : ℕ) (value : ℤ) (new : C) : Type 0 where
  pub known : KnowsNow (ways.known old) cell value (ways.known new)
  pub same : MaySame ways old new
  pub rule : ways.rule old (Writes cell value) new

-- the implementation allows all these accesses
abbrev pub MayAll : {C : Type 0} → Ways C → C → List Access → Type 0
MayAll ways cells [] = Unit {0}
MayAll ways cells (Reads cell value ∷ earlier) = ways.may_read cells cell × MayAll ways cells earlier
MayAll ways cells (Writes cell value ∷ earlier) = ways.may_write cells cell × MayAll ways cells earlier
MayAll ways cells (Prints value ∷ earlier) = MayAll ways cells earlier

-- the accesses lead from one state to another: by the rule at each read and each write; a print changes nothing
abbrev pub Follows : {C : Type 0} → (C → Access → C → Type 0) → C → List Access → C → Type 0
Follows rule old [] new = new ≡ old
Follows {C = C} rule old (Reads cell value ∷ earlier) new =
    (between : C) × Follows rule old earlier between × rule between (Reads cell value) new
Follows {C = C} rule old (Writes cell value ∷ earlier) new =
    (between : C) × Follows rule old earlier between × rule between (Writes cell value) new
Follows rule old (Prints value ∷ earlier) new = Follows rule old earlier new
