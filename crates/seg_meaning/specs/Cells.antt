-- The numbers of the cells that names with indexes denote.
use Rattle.std.specs.Prelude.{ℕ, ◌+◌, ◌*◌, ℤ, pos, negsuc, Option, None, Some, nat_lt, if◌then◌else◌, option_map, slice_get}
use Rattle.twe_program.specs.declared.program.Dims.{Dims}
use Rattle.twe_program.specs.declared.program.Dims.TheVariants.{Scalar, Row, Grid}
use Rattle.twe_program.specs.declared.program.CellDecl.{CellDecl}
use Rattle.twe_program.specs.Program.{Program}

-- the number of the first cell of a declaration; 0 if there is no such declaration
abbrev pub first_of : Option CellDecl → ℕ
first_of None = 0
first_of (Some cell) = cell.first

-- the index if it is at least 0 and below its bound
abbrev pub index_below : ℕ → ℤ → Option ℕ
index_below bound (pos n) = if nat_lt n bound then Some n else None
index_below bound (negsuc n) = None

-- the place of an element in its array; none if the index is out of range, or if it is no array
abbrev pub in_row : Dims → ℤ → Option ℕ
in_row (Row count) index = index_below count index
in_row Scalar index = None
in_row (Grid rows columns) index = None

-- the place of an element in a grid by its row and its column; elements are numbered row by row. None if one is missing.
abbrev pub at_column : ℕ → Option ℕ → Option ℕ → Option ℕ
at_column columns (Some row) (Some column) = Some (row * columns + column)
at_column columns None column = None
at_column columns (Some row) None = None

-- the place of an element in its grid; none if the row or the column is out of range, or if it is no grid
abbrev pub in_grid : Dims → ℤ → ℤ → Option ℕ
in_grid (Grid rows columns) row column = at_column columns (index_below rows row) (index_below columns column)
in_grid Scalar row column = None
in_grid (Row count) row column = None

-- the number of the cell of an element of an array; none if the index is out of range
abbrev pub element_of : Option CellDecl → ℤ → Option ℕ
element_of None index = None
element_of (Some cell) index = option_map (λ offset. cell.first + offset) (in_row cell.dims index)

-- the number of the cell of an element of a grid; none if an index is out of range
abbrev pub grid_element_of : Option CellDecl → ℤ → ℤ → Option ℕ
grid_element_of None row column = None
grid_element_of (Some cell) row column = option_map (λ offset. cell.first + offset) (in_grid cell.dims row column)

-- the number of a cell of the program, by the number of its declaration
abbrev pub cell_number : Program → ℕ → ℕ
cell_number p cell = first_of (slice_get p.cells cell)

-- the number of the cell of an element of an array of the program; none if the index is out of range
abbrev pub element_number : Program → ℕ → ℤ → Option ℕ
element_number p array index = element_of (slice_get p.cells array) index

-- the number of the cell of an element of a grid of the program; none if an index is out of range
abbrev pub grid_element_number : Program → ℕ → ℤ → ℤ → Option ℕ
grid_element_number p array row column = grid_element_of (slice_get p.cells array) row column
