-- An index, an argument and a cell as the rules see them.
use Rattle.std.specs.Prelude.{ℕ, true, false, List, [], ◌∷◌, ◌++◌, Option, None, Some, slice_get}
use Rattle.region_paths.specs.declared.elements.Elem.{Elem}
use Rattle.region_paths.specs.declared.elements.Elem.TheVariants.{Name, Index, Var, AnyIndex}
use Rattle.region_paths.specs.Written.{WrittenPath}
use Rattle.twe_program.specs.declared.program.CellDecl.{CellDecl}
use Rattle.twe_program.specs.Program.{Program}
use Rattle.twe_program.specs.Expression.{Expression, Literal, Variable, Arguments, no_more, argument}

-- a literal, a parameter and a `final int` local are themselves, and everything else is any index
abbrev pub element_of_index : Expression → Elem
element_of_index (Literal value) = Index value
element_of_index (Variable var true) = Var var
element_of_index _ = AnyIndex

-- the same of each argument
abbrev pub elements_of : Arguments → List Elem
elements_of no_more = []
elements_of (argument first others) = element_of_index first ∷ elements_of others

-- the path that a declaration of cells lies in
abbrev pub elements_from : Option CellDecl → List Elem
elements_from None = []
elements_from (Some cell) = cell.path.elems

-- the path of a cell, or of the element of an array or a grid at these indexes
abbrev pub path_at : Program → ℕ → List Elem → WrittenPath
path_at p cell indexes = record { elems = elements_from (slice_get p.cells cell) ++ indexes; star = false; tail = [] }

-- the path of `Console`, the region that is written by a print
abbrev pub console_element : WrittenPath
console_element = record { elems = Name 0 ∷ []; star = false; tail = [] }
