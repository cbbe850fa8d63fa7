-- What was counted of the declarations of a text.
use Rattle.std.specs.Prelude.{◌≡◌, ℕ, ◌+◌, ◌<◌, ◌≤◌, ◌↔◌, ◌⊎◌, Bool, true, false, List, ◌++◌, length}
use Rattle.twe_base.specs.Language.{max_cells, max_nodes}
use Rattle.prefix_tree.specs.declared.part.Part.{Part}
use Rattle.prefix_tree.specs.Nodes.{IsNode as IsTreeNode, IsTreeOfPaths}
use Rattle.prefix_tree.specs.Growth.{Grows}
use Rattle.twe_ast.specs.declared.item.CellDecl.{CellDecl}
use Rattle.twe_ast.specs.declared.path.CellElemKind.{CellElemKind}
use Rattle.name_check.specs.declared.cell_limits.count.Count.{Count}
use Rattle.name_check.specs.cell_limits.Nodes.{declared_size, cells_of_text, written_path, DeclaresCells, IsPathNode}
use Rattle.name_check.specs.cell_limits.inner.Parts.{parts_of}

-- the path is a prefix of one that the cell declares
abbrev pub IsOfCell : CellDecl → List CellElemKind → Type 0
IsOfCell cell path =
    (declared : List CellElemKind) × (rest : List CellElemKind)
    × DeclaresCells (written_path cell) cell.shape declared
    × (declared ≡ path ++ rest)

-- these are the parts of such a path
abbrev pub IsPartsOf : List (List ℕ) → (List CellElemKind → Type 0) → List Part → Type 0
IsPartsOf names IsPath parts = (path : List CellElemKind) × IsPath path × (parts_of names path ≡ parts)

-- all of these declarations were counted, and they stay within the limits
pub record HasCounted (names : List (List ℕ)) (counted : List CellDecl) (count : Count) : Type 0 where
  pub cells : count.cells ≡ cells_of_text counted
  pub few_cells : count.cells ≤ max_cells
  pub exact : (parts : List Part) → IsTreeNode count.tree parts ↔ IsPartsOf names (IsPathNode counted) parts
  pub few_nodes : length count.tree ≤ max_nodes

-- a declaration was counted whole
pub record CountsWhole (names : List (List ℕ)) (old new : Count) (cell : CellDecl) : Type 0 where
  pub cells : new.cells ≡ old.cells + declared_size cell.shape
  pub few_cells : new.cells ≤ max_cells
  pub tree : IsTreeOfPaths new.tree
  pub grows : Grows old.tree new.tree (IsPartsOf names (IsOfCell cell))

-- whether the numbers stay within the limits with one declaration more
abbrev pub CountsOn : List (List ℕ) → Count → Count → CellDecl → Bool → Type 0
CountsOn names old new cell true = CountsWhole names old new cell × (length new.tree ≤ max_nodes)
CountsOn names old new cell false =
    (max_cells < old.cells + declared_size cell.shape) ⊎ (CountsWhole names old new cell × (max_nodes < length new.tree))
