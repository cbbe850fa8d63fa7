-- What the elements of paths are by the numbers of names.
use Rattle.std.specs.Prelude.{ℕ, pos, List, map, bytes_eq, position, unwrap_or, Contains}
use Rattle.twe_ast.specs.declared.path.CellElemKind.{CellElemKind}
use Rattle.twe_ast.specs.declared.path.CellElemKind.TheVariants.{Name, Index}
use Rattle.prefix_tree.specs.declared.part.Part.{Part}
use Rattle.prefix_tree.specs.declared.part.Part.TheVariants as part

-- the place of a name in the list, and 0 for one that isn't there
abbrev pub number_of : List (List ℕ) → List ℕ → ℕ
number_of names text = unwrap_or (position (bytes_eq text) names) 0

-- an element of a path with the number of its name
abbrev pub part_of : List (List ℕ) → CellElemKind → Part
part_of names (Name text) = part.Name (number_of names text)
part_of names (Index index) = part.Index (pos index)

-- the elements of a path with the numbers of their names
abbrev pub parts_of : List (List ℕ) → List CellElemKind → List Part
parts_of names path = map (part_of names) path

-- the element is an index, or a name of the list
abbrev pub IsKnown : List (List ℕ) → CellElemKind → Type 0
IsKnown names (Name text) = Contains names text
IsKnown names (Index index) = Unit {0}

-- all names stay
abbrev pub Keeps : List (List ℕ) → List (List ℕ) → Type 0
Keeps old new = (text : List ℕ) → Contains old text → Contains new text
