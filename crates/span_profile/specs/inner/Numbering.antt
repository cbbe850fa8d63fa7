-- Numbers of concrete paths: the nodes of a tree of paths.
use Rattle.std.specs.Prelude.{◌≡◌, ◌<◌, ◌≤◌, ◌++◌, ℕ, zero, suc, List, [], ◌∷◌, length, map, Option, None, Some, slice_get}
use Rattle.std.specs.List.{AllZip}
use Rattle.prefix_tree.specs.declared.part.Part.{Part}
use Rattle.prefix_tree.specs.declared.part.Part.TheVariants.{Name, Index}
use Rattle.prefix_tree.specs.Nodes.{IsTreeOfPaths, path_of}
use Rattle.region_paths.specs.declared.elements.Elem.{Elem}
use Rattle.region_paths.specs.Concrete.{ConcreteElem, ConcretePath, region, number}
use Rattle.twe_program.specs.declared.program.CellDecl.{CellDecl}
use Rattle.twe_program.specs.declared.program.Dims.{Dims}
use Rattle.twe_program.specs.Program.{Program, cell_count}
use Rattle.isolation_laws.specs.soundness.CellPaths.{concrete, indexes_at, path_of_cell}
use Rattle.span_profile.specs.declared.places.NumberedPaths.{NumberedPaths}

-- the part that stands for an element of a concrete path
abbrev pub part_of : ConcreteElem → Part
part_of (region n) = Name n
part_of (number z) = Index z

-- the parts of a concrete path
abbrev pub parts_of : ConcretePath → List Part
parts_of path = map part_of path

-- the node of this number has this path
pub record IsNumber (nodes : List (List Part)) (n : ℕ) (path : List Part) : Type 0 where
  pub there : n < length nodes
  pub path_is : path_of nodes n ≡ path

-- the nodes keep their numbers
pub record KeepsNumbers (old new : List (List Part)) : Type 0 where
  pub longer : length old ≤ length new
  pub kept : (n : ℕ) → n < length old → path_of new n ≡ path_of old n

-- the parts of the indexes of the element at a place of a declaration
abbrev pub parts_at : Dims → ℕ → List Part
parts_at dims place = parts_of (indexes_at dims place)

-- the parts of the path in which a declaration of cells lies
abbrev pub decl_parts : CellDecl → List Part
decl_parts decl = map (λ (e : Elem). part_of (concrete e)) decl.path.elems

-- the paths of the first cells of a declaration, of which there are so many
abbrev pub decl_paths : CellDecl → ℕ → List (List Part)
decl_paths decl zero = []
decl_paths decl (suc n) = decl_paths decl n ++ (decl_parts decl ++ parts_at decl.dims n) ∷ []

-- the numbers are those of these paths, one after another
abbrev pub Numbered : List (List Part) → List ℕ → List (List Part) → Type 0
Numbered nodes numbers paths = AllZip (IsNumber nodes) numbers paths

-- the numbers are more by those of these paths
abbrev pub AreNumbered : List (List Part) → List ℕ → List (List Part) → List ℕ → List (List Part) → Type 0
AreNumbered old_nodes old nodes new paths =
    (before : List (List Part)) → Numbered old_nodes old before → Numbered nodes new (before ++ paths)

-- a number that was looked up, and 0 if none was found
abbrev pub number_found : Option ℕ → ℕ
number_found None = 0
number_found (Some n) = n

-- the number of a cell's path, and 0 if there is no such cell
abbrev pub place_of : NumberedPaths → ℕ → ℕ
place_of places cell = number_found (slice_get places.cells cell)

-- The numbers of cells are those of their concrete paths, and the number of `Console` is that of its path. No path has two
-- numbers.
pub record ArePlaces (p : Program) (places : NumberedPaths) : Type 0 where
  pub nodes : List (List Part)
  pub tree : IsTreeOfPaths nodes
  pub cells : (cell : ℕ) → cell < cell_count p → IsNumber nodes (place_of places cell) (parts_of (path_of_cell p cell))
  pub console : IsNumber nodes places.console (parts_of (region 0 ∷ []))
