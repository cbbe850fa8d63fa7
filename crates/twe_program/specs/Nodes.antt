-- The paths that the cells of a program declare, and the nodes of its tree of regions.
use Rattle.std.specs.Prelude.{◌≡◌, ℕ, pos, ◌<◌, ◌≤◌, ◌⊎◌, List, [], ◌∷◌, ◌++◌, length, Contains, AllPairs}
use Rattle.std.specs.List.{Any}
use Rattle.region_paths.specs.declared.elements.Elem.{Elem}
use Rattle.region_paths.specs.declared.elements.Elem.TheVariants.{Name, Index}
use Rattle.twe_program.specs.declared.program.CellDecl.{CellDecl}
use Rattle.twe_program.specs.declared.program.Dims.{Dims}
use Rattle.twe_program.specs.declared.program.Dims.TheVariants.{Scalar, Row, Grid}
use Rattle.twe_program.specs.Program.{Program}

-- A cell declares the path in which it lies. An array and a grid also declare the paths of their elements.
abbrev pub Declares : List Elem → Dims → List Elem → Type 0
Declares path Scalar declared = declared ≡ path
Declares path (Row count) declared =
    (declared ≡ path) ⊎ ((i : ℕ) × (i < count) × (declared ≡ path ++ Index (pos i) ∷ []))
Declares path (Grid rows columns) declared =
    (declared ≡ path) ⊎ ((i : ℕ) × (j : ℕ) × (i < rows) × (j < columns) × (declared ≡ path ++ Index (pos i) ∷ Index (pos j) ∷ []))

-- the path of `Console`, which is region 0
abbrev pub console : List Elem
console = Name 0 ∷ []

-- the path begins with these elements
abbrev pub PathBeginsWith : List Elem → List Elem → Type 0
PathBeginsWith path front = (rest : List Elem) × (path ≡ front ++ rest)

-- the path is a prefix of one that a cell at the first path declares
abbrev pub IsPrefixOfDeclared : List Elem → Dims → List Elem → Type 0
IsPrefixOfDeclared at dims path = (declared : List Elem) × Declares at dims declared × PathBeginsWith declared path

-- The tree of regions of a program has a node for each prefix of the path of `Console` and of a path that a cell
-- declares. The empty path, that of the root, is such a prefix.
abbrev pub IsNodePath : Program → List Elem → Type 0
IsNodePath p path = PathBeginsWith console path
    ⊎ Any (λ (cell : CellDecl). IsPrefixOfDeclared cell.path.elems cell.dims path) p.cells

-- the tree of regions has at most this many nodes: no list of different nodes is longer
abbrev pub HasNodesAtMost : Program → ℕ → Type 0
HasNodesAtMost p most =
    (nodes : List (List Elem)) → AllPairs (λ one other. ¬ (one ≡ other)) nodes
    → ((path : List Elem) → Contains nodes path → IsNodePath p path) → length nodes ≤ most
