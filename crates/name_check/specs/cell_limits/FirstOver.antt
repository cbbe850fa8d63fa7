-- Which declaration of a text goes over a limit, as a place.
use Rattle.std.specs.Prelude.{◌≡◌, List, Option, None, Some}
use Rattle.twe_base.specs.declared.place.Place.{Place}
use Rattle.twe_ast.specs.declared.item.Item.{Item}
use Rattle.twe_ast.specs.declared.item.CellDecl.{CellDecl}
use Rattle.name_check.specs.cell_limits.GoesOver.{cells_of, GoesOver}

-- None: no declaration goes over a limit. Some: one does, and the place is that of the name of each that does.
abbrev pub IsFirstOver : List Item → Option Place → Type 0
IsFirstOver items None = (cell : CellDecl) → ¬ GoesOver (cells_of items) cell
IsFirstOver items (Some place) =
    ((cell : CellDecl) × GoesOver (cells_of items) cell × (place ≡ cell.name.place))
    × ((cell : CellDecl) → GoesOver (cells_of items) cell → cell.name.place ≡ place)
