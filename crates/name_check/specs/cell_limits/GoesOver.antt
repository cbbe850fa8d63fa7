-- The limits on cells and nodes, and the declaration that goes over one.
use Rattle.std.specs.Prelude.{◌≡◌, ◌+◌, ◌<◌, ◌≤◌, ◌⊎◌, List, [], ◌∷◌, ◌++◌, flat_map}
use Rattle.twe_base.specs.Language.{max_cells, max_nodes}
use Rattle.twe_ast.specs.declared.item.Item.{Item}
use Rattle.twe_ast.specs.declared.item.Item.TheVariants as items
use Rattle.twe_ast.specs.declared.item.CellDecl.{CellDecl}
use Rattle.name_check.specs.cell_limits.Nodes.{cells_of_text, HasNodes}

-- the declaration of cells that an item is, if it is one
abbrev pub cells_of_item : Item → List CellDecl
cells_of_item (items.Cell cell) = cell ∷ []
cells_of_item _ = []

-- the declarations of cells, in the order of the text
abbrev pub cells_of : List Item → List CellDecl
cells_of items = flat_map cells_of_item items

-- The declaration is the first, in the order of the text, that brings the number of cells or the number of nodes over its
-- limit.
pub record GoesOver (cells : List CellDecl) (cell : CellDecl) : Type 0 where
  pub before : List CellDecl
  pub after : List CellDecl
  pub list : cells ≡ before ++ cell ∷ after
  pub few_cells : cells_of_text before ≤ max_cells
  pub few_nodes : ¬ HasNodes before (max_nodes + 1)
  pub over : (max_cells < cells_of_text (before ++ cell ∷ [])) ⊎ HasNodes (before ++ cell ∷ []) (max_nodes + 1)
