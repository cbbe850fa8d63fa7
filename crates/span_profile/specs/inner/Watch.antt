-- Cells that record which of them were read and written, as an implementation of cells.
use Rattle.std.specs.Prelude.{◌≡◌, ◌<◌, ℕ, ℤ, List, [], ◌∷◌, Option, length, slice_get, slice_set}
use Rattle.seg_meaning.specs.Access.{Access, Reads, Writes, Prints, value_in}
use Rattle.span_profile.specs.declared.watched.WatchedCells.{WatchedCells}
use Rattle.span_profile.specs.inner.Sets.{NumberSet, with_cell}

-- the value of the cell, if there is one
abbrev pub watch_knows : WatchedCells → ℕ → Option ℤ
watch_knows w cell = slice_get w.values cell

-- there is such a cell
pub record MayTouch (w : WatchedCells) (cell : ℕ) : Type 0 where
  pub value : cell < length w.values
  pub read : cell < w.reads.size
  pub written : cell < w.writes.size

-- a read adds the cell to those that were read, a write gives it its value and adds it to those that were written
abbrev pub WatchFollows : WatchedCells → Access → WatchedCells → Type 0
WatchFollows old (Reads cell value) new =
    (new ≡ record old { reads = with_cell cell old.reads }) × (value_in (slice_get old.values cell) ≡ value)
WatchFollows old (Writes cell value) new =
    new ≡ record old { values = slice_set old.values cell value; writes = with_cell cell old.writes }
WatchFollows old (Prints value) new = new ≡ old

-- the set, with what these accesses read; the latest access is the first
abbrev pub read_by : List Access → NumberSet → NumberSet
read_by [] set = set
read_by (Reads cell value ∷ earlier) set = with_cell cell (read_by earlier set)
read_by (Writes cell value ∷ earlier) set = read_by earlier set
read_by (Prints value ∷ earlier) set = read_by earlier set

-- the set, with what these accesses wrote
abbrev pub written_by : List Access → NumberSet → NumberSet
written_by [] set = set
written_by (Reads cell value ∷ earlier) set = written_by earlier set
written_by (Writes cell value ∷ earlier) set = with_cell cell (written_by earlier set)
written_by (Prints value ∷ earlier) set = written_by earlier set
