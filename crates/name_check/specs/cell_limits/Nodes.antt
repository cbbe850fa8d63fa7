-- The cells that a text declares, and the nodes of their paths. Paths are compared by the text of their names, so a name
-- that is declared nowhere counts too.
use Rattle.std.specs.Prelude.{◌≡◌, ℕ, ◌+◌, ◌*◌, ◌<◌, ◌⊎◌, List, [], ◌∷◌, ◌++◌, map, codes, length, Contains, AllPairs}
use Rattle.twe_ast.specs.declared.item.CellDecl.{CellDecl}
use Rattle.twe_ast.specs.declared.item.CellShape.{CellShape}
use Rattle.twe_ast.specs.declared.item.CellShape.TheVariants as shapes
use Rattle.twe_ast.specs.declared.path.CellElem.{CellElem}
use Rattle.twe_ast.specs.declared.path.CellElemKind.{CellElemKind}
use Rattle.twe_ast.specs.declared.path.CellElemKind.TheVariants.{Name, Index}

-- how many cells a declaration makes
abbrev pub declared_size : CellShape → ℕ
declared_size (shapes.Scalar initial) = 1
declared_size (shapes.Array elements) = elements
declared_size (shapes.Grid rows columns) = rows * columns

-- how many cells the declarations make together
abbrev pub cells_of_text : List CellDecl → ℕ
cells_of_text [] = 0
cells_of_text (cell ∷ cells) = declared_size cell.shape + cells_of_text cells

-- the path of a declaration, as it is written
abbrev pub written_path : CellDecl → List CellElemKind
written_path cell = map (λ (elem : CellElem). elem.kind) cell.path.elems

-- A cell declares the path in which it lies. An array and a grid also declare the paths of their elements.
abbrev pub DeclaresCells : List CellElemKind → CellShape → List CellElemKind → Type 0
DeclaresCells path (shapes.Scalar initial) declared = declared ≡ path
DeclaresCells path (shapes.Array elements) declared =
    (declared ≡ path) ⊎ ((i : ℕ) × (i < elements) × (declared ≡ path ++ Index i ∷ []))
DeclaresCells path (shapes.Grid rows columns) declared =
    (declared ≡ path) ⊎ ((i : ℕ) × (j : ℕ) × (i < rows) × (j < columns) × (declared ≡ path ++ Index i ∷ Index j ∷ []))

-- the path of `Console`
abbrev pub console_name : List CellElemKind
console_name = Name (codes "Console") ∷ []

-- A node is a prefix of the path of `Console`, or of a path that a cell declares. The empty path is the root.
pub data IsPathNode (cells : List CellDecl) (path : List CellElemKind) : Type 0 where
  of_console : (rest : List CellElemKind) → console_name ≡ path ++ rest → IsPathNode cells path
  of_cell : (cell : CellDecl) (declared rest : List CellElemKind)
      → Contains cells cell → DeclaresCells (written_path cell) cell.shape declared → declared ≡ path ++ rest
      → IsPathNode cells path

-- there are at least this many nodes
pub record HasNodes (cells : List CellDecl) (count : ℕ) : Type 0 where
  pub nodes : List (List CellElemKind)
  pub many : length nodes ≡ count
  pub distinct : AllPairs (λ one other. ¬ (one ≡ other)) nodes
  pub each : (path : List CellElemKind) → Contains nodes path → IsPathNode cells path
