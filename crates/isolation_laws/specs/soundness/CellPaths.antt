-- The concrete path of each cell of a program: the path of its declaration, followed by its indexes in an array or a
-- grid.
use Rattle.std.specs.Prelude.{ℕ, ◌+◌, ◌-◌, ◌/◌, ◌%◌, pos, List, [], ◌∷◌, ◌++◌, map, nat_lt, if◌then◌else◌}
use Rattle.region_paths.specs.declared.elements.Elem.{Elem}
use Rattle.region_paths.specs.declared.elements.Elem.TheVariants.{Name, Index, Var, AnyIndex}
use Rattle.region_paths.specs.Concrete.{ConcreteElem, region, number, ConcretePath}
use Rattle.twe_program.specs.declared.program.Dims.{Dims}
use Rattle.twe_program.specs.declared.program.Dims.TheVariants.{Scalar, Row, Grid}
use Rattle.twe_program.specs.declared.program.CellDecl.{CellDecl}
use Rattle.twe_program.specs.Program.{Program, size_of}

-- a region and a literal index are themselves; the path of a declaration of cells has no other elements
abbrev pub concrete : Elem → ConcreteElem
concrete (Name name) = region name
concrete (Index index) = number index
concrete (Var param) = number (pos 0)
concrete AnyIndex = number (pos 0)

-- the indexes of the element at a place of an array, or of a grid, whose elements are numbered row by row
abbrev pub indexes_at : Dims → ℕ → ConcretePath
indexes_at Scalar place = []
indexes_at (Row count) place = number (pos place) ∷ []
indexes_at (Grid rows columns) place = number (pos (place / columns)) ∷ number (pos (place % columns)) ∷ []

-- the path of a cell of the declaration
abbrev pub path_within : CellDecl → ℕ → ConcretePath
path_within decl cell = map concrete decl.path.elems ++ indexes_at decl.dims (cell - decl.first)

-- the path of a cell of one of these declarations: the first one that ends after the cell
abbrev pub path_among : List CellDecl → ℕ → ConcretePath
path_among [] cell = []
path_among (decl ∷ others) cell =
    if nat_lt cell (decl.first + size_of decl.dims) then path_within decl cell else path_among others cell

-- the path of a cell of the program, by the cell's number
abbrev pub path_of_cell : Program → ℕ → ConcretePath
path_of_cell p cell = path_among p.cells cell
