-- When the numbers of a declaration fit 32 bits.
use Rattle.std.specs.Prelude.{◌<◌, ◌^◌, All}
use Rattle.twe_ast.specs.declared.item.Clause.{Clause}
use Rattle.twe_ast.specs.declared.item.Decl.{Decl}
use Rattle.twe_ast.specs.declared.item.Item.{Item}
use Rattle.twe_ast.specs.declared.item.Item.TheVariants as items
use Rattle.twe_ast.specs.declared.path.Path.{Path}
use Rattle.twe_ast.specs.declared.path.PathElem.{PathElem}
use Rattle.twe_ast.specs.declared.path.CellElem.{CellElem}
use Rattle.twe_ast.specs.declared.path.CellPath.{CellPath}
use Rattle.name_check.specs.Size.{size_of_decl}
use Rattle.twe_names.specs.FromText.{IsSmall, IsSmallInCell}

-- each index in the path of an effect fits
abbrev pub IsSmallPath : Path → Type 0
IsSmallPath path = All (λ (elem : PathElem). IsSmall elem.kind) path.elems

-- each index in the paths of a clause fits
abbrev pub IsSmallClause : Clause → Type 0
IsSmallClause clause = All IsSmallPath clause.paths

-- each index in the path of a cell fits
abbrev pub IsSmallCellPath : CellPath → Type 0
IsSmallCellPath path = All (λ (elem : CellElem). IsSmallInCell elem.kind) path.elems

-- its indexes fit, and all that it declares and does can be numbered
pub record IsSmallDecl (decl : Decl) : Type 0 where
  pub indexes : All IsSmallClause decl.effects
  pub size : size_of_decl decl < 2 ^ 32

-- the same for an item; regions have no indexes, and of a cell only the indexes count
abbrev pub IsSmallItem : Item → Type 0
IsSmallItem (items.Regions names) = Unit {0}
IsSmallItem (items.Cell cell) = IsSmallCellPath cell.path
IsSmallItem (items.Method decl) = IsSmallDecl decl
IsSmallItem (items.Task deterministic decl) = IsSmallDecl decl
