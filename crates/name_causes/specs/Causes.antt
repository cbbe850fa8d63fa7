-- When a need is the cause of a rule's failure.
use Rattle.std.specs.Prelude.{◌≡◌, ℕ, ◌+◌, true, Bool, false, ◌==◌, ◌&&◌, ◌||◌, nat_lt, List, [], ◌∷◌, Contains, if◌then◌else◌}
use Rattle.twe_base.specs.Language.{max_cells}
use Rattle.twe_base.specs.declared.place.Place.{Place}
use Rattle.twe_ast.specs.declared.item.Ast.{Ast}
use Rattle.twe_ast.specs.declared.item.CellDecl.{CellDecl}
use Rattle.twe_ast.specs.declared.item.Item.{Item}
use Rattle.twe_ast.specs.declared.item.Item.TheVariants.{Regions, Cell, Method, Task}
use Rattle.name_check.specs.declared.names.GlobalName.{GlobalName}
use Rattle.name_check.specs.declared.rule.NRule.{NRule}
use Rattle.name_check.specs.declared.rule.NRule.TheVariants.{N2, N7}
use Rattle.name_check.specs.FailsName.{FailsName, IsDeclaredAgain}
use Rattle.name_check.specs.cell_limits.GoesOver.{cells_of, GoesOver}
use Rattle.name_check.specs.cell_limits.Nodes.{declared_size}
use Rattle.name_causes.specs.declared.need.NameLimit.TheVariants.{Cells}
use Rattle.name_causes.specs.declared.need.NameNeed.{NameNeed}
use Rattle.name_causes.specs.declared.need.NameNeed.TheVariants.{Again, Over}
use Rattle.name_causes.specs.declared.need.PlacedNeed.{PlacedNeed}
use Rattle.name_causes.specs.Breaking.{breaks}
use Rattle.name_causes.specs.Others.{needs_of_text}

-- how many cells an item makes
abbrev pub cells_made_by : Item → ℕ
cells_made_by (Regions names) = 0
cells_made_by (Cell cell) = declared_size cell.shape
cells_made_by (Method decl) = 0
cells_made_by (Task deterministic decl) = 0

-- the item is the declaration of cells whose name is at the place
abbrev pub declares_cells_at : Place → Item → Bool
declares_cells_at place (Regions names) = false
declares_cells_at place (Cell cell) = (cell.name.place.line == place.line) && (cell.name.place.col == place.col)
declares_cells_at place (Method decl) = false
declares_cells_at place (Task deterministic decl) = false

-- how many cells there are, with those of the items up to the declaration at the place, or up to the first that is over the limit
abbrev pub cells_up_to : Place → ℕ → List Item → ℕ
cells_up_to place sum [] = sum
cells_up_to place sum (item ∷ items) =
    if declares_cells_at place item || nat_lt max_cells (sum + cells_made_by item)
    then sum + cells_made_by item
    else cells_up_to place (sum + cells_made_by item) items

-- The rule fails at the place: the text needs this there, and by the rule what is there does not do for it.
pub data IsNameCause (ast : Ast) (rule : NRule) (place : Place) : NameNeed → Type 0 where
  -- it is one of what the text needs at its places
  needed : (placed : PlacedNeed) → FailsName ast rule place → Contains (needs_of_text ast) placed → placed.place ≡ place
      → breaks rule placed.need ≡ true → IsNameCause ast rule place placed.need
  -- a global name has to be new
  again : (name : GlobalName) → IsDeclaredAgain ast name → name.place ≡ place → rule ≡ N2 → IsNameCause ast rule place Again
  -- a declaration brings the number of cells, or that of nodes, over its limit
  over : (cell : CellDecl) → GoesOver (cells_of ast.items) cell → cell.name.place ≡ place → rule ≡ N7
      → IsNameCause ast rule place (Over Cells (cells_up_to place 0 ast.items))
