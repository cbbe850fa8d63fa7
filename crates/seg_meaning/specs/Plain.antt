-- A plain list of cells as an implementation of cells.
use Rattle.std.specs.Prelude.{◌≡◌, ◌<◌, ℕ, ℤ, List, Option, length, slice_get, slice_set}
use Rattle.seg_meaning.specs.Access.{Access, Reads, Writes, Prints, Ways, value_in, ways_of}

-- the value of each cell of the list is known
abbrev pub list_knows : List ℤ → ℕ → Option ℤ
list_knows cells cell = slice_get cells cell

-- each cell of the list may be read, and may be written
abbrev pub ListMay : List ℤ → ℕ → Type 0
ListMay cells cell = cell < length cells

-- a read leaves the list as it is and gives the value of the cell; a write sets the value of the cell
abbrev pub ListFollows : List ℤ → Access → List ℤ → Type 0
ListFollows old (Reads cell value) new = (new ≡ old) × (value_in (slice_get old cell) ≡ value)
ListFollows old (Writes cell value) new = new ≡ slice_set old cell value
ListFollows old (Prints value) new = new ≡ old

-- what such a list states
abbrev pub list_ways : Ways (List ℤ)
list_ways = ways_of list_knows ListMay ListMay ListFollows
