-- A resolved program, as contracts see it.
use Rattle.std.specs.Prelude.{ℕ, ◌+◌, ◌*◌, List, [], ◌∷◌}
use Rattle.twe_program.specs.declared.program.Dims.{Dims}
use Rattle.twe_program.specs.declared.program.Dims.TheVariants.{Scalar, Row, Grid}
use Rattle.twe_program.specs.declared.program.CellDecl.{CellDecl}
use Rattle.twe_program.specs.declared.program.Decl.{Decl}

-- the names of the regions, the declarations of cells, methods and tasks, and the number of the task `main`
pub record Program : Type 0 where
  pub regions : List (List ℕ)
  pub cells : List CellDecl
  pub methods : List Decl
  pub tasks : List Decl
  pub main : ℕ

-- how many cells a declaration makes: one by itself, one for each element of an array, or one for each of a grid
abbrev pub size_of : Dims → ℕ
size_of Scalar = 1
size_of (Row count) = count
size_of (Grid rows columns) = rows * columns

-- how many cells the declarations make in total
abbrev pub cells_made : List CellDecl → ℕ
cells_made [] = 0
cells_made (cell ∷ cells) = size_of cell.dims + cells_made cells

-- how many cells the program has
abbrev pub cell_count : Program → ℕ
cell_count p = cells_made p.cells
