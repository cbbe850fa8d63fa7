-- The cells that a segment touches: what it reads before it writes, and what it leaves written. Lists of accesses have
-- the latest first.
use Rattle.std.specs.Prelude.{ℕ, ℤ, Bool, false, ◌||◌, List, [], ◌∷◌, ◌++◌, map, Option, None, Some, is_some, nat_eq, if◌then◌else◌, slice_set}
use Rattle.seg_meaning.specs.Access.{Access, Reads, Writes, Prints, value_in}
use Rattle.opt_engine.specs.declared.touch.CellValue.{CellValue}

-- the cell was read or written
abbrev pub is_touched : List Access → ℕ → Bool
is_touched [] cell = false
is_touched (Reads other value ∷ earlier) cell = nat_eq other cell || is_touched earlier cell
is_touched (Writes other value ∷ earlier) cell = nat_eq other cell || is_touched earlier cell
is_touched (Prints value ∷ earlier) cell = is_touched earlier cell

-- the value that was written to the cell last; none if it was not written
abbrev pub last_written : List Access → ℕ → Option ℤ
last_written [] cell = None
last_written (Reads other value ∷ earlier) cell = last_written earlier cell
last_written (Writes other value ∷ earlier) cell = if nat_eq other cell then Some value else last_written earlier cell
last_written (Prints value ∷ earlier) cell = last_written earlier cell

-- the cells that were read before they were read or written, each with the value read, in the order of reading
abbrev pub first_reads : List Access → List CellValue
first_reads [] = []
first_reads (Reads cell value ∷ earlier) =
    if is_touched earlier cell then first_reads earlier else first_reads earlier ++ record { cell = cell; value = value } ∷ []
first_reads (Writes cell value ∷ earlier) = first_reads earlier
first_reads (Prints value ∷ earlier) = first_reads earlier

-- the cells that were written, in the order of first writing
abbrev pub written_cells : List Access → List ℕ
written_cells [] = []
written_cells (Reads cell value ∷ earlier) = written_cells earlier
written_cells (Writes cell value ∷ earlier) =
    if is_some (last_written earlier cell) then written_cells earlier else written_cells earlier ++ cell ∷ []
written_cells (Prints value ∷ earlier) = written_cells earlier

-- a cell with its last written value
abbrev pub last_write : List Access → ℕ → CellValue
last_write accesses cell = record { cell = cell; value = value_in (last_written accesses cell) }

-- the cells that were written, each with its last value
abbrev pub last_writes : List Access → List CellValue
last_writes accesses = map (last_write accesses) (written_cells accesses)

-- the cells after these writes
abbrev pub with_writes : List ℤ → List CellValue → List ℤ
with_writes cells [] = cells
with_writes cells (w ∷ ws) = with_writes (slice_set cells w.cell w.value) ws
