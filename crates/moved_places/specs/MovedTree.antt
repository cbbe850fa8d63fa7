-- Declarations and trees with each place in them moved.
use Rattle.std.specs.Prelude.{map}
use Rattle.twe_base.specs.declared.place.Place.{Place}
use Rattle.twe_ast.specs.declared.item.Ast.{Ast}
use Rattle.twe_ast.specs.declared.item.CellDecl.{CellDecl}
use Rattle.twe_ast.specs.declared.item.Clause.{Clause}
use Rattle.twe_ast.specs.declared.item.Decl.{Decl}
use Rattle.twe_ast.specs.declared.item.Item.{Item}
use Rattle.twe_ast.specs.declared.item.Item.TheVariants as items
use Rattle.twe_ast.specs.declared.path.CellElem.{CellElem}
use Rattle.twe_ast.specs.declared.path.CellPath.{CellPath}
use Rattle.twe_ast.specs.declared.path.Path.{Path}
use Rattle.twe_ast.specs.declared.path.PathElem.{PathElem}
use Rattle.twe_ast.specs.declared.path.PathElemKind.{PathElemKind}
use Rattle.twe_ast.specs.declared.path.PathElemKind.TheVariants as elem_kinds
use Rattle.moved_places.specs.MovedExpression.{moved_name}
use Rattle.moved_places.specs.MovedStatement.{moved_block}

-- what an element of the path of an effect is, with the place of a parameter moved
abbrev pub moved_elem_kind : (Place → Place) → PathElemKind → PathElemKind
moved_elem_kind to (elem_kinds.Name text) = elem_kinds.Name text
moved_elem_kind to (elem_kinds.Index index) = elem_kinds.Index index
moved_elem_kind to (elem_kinds.Variable name) = elem_kinds.Variable (moved_name to name)
moved_elem_kind to elem_kinds.AnyIndex = elem_kinds.AnyIndex
moved_elem_kind to elem_kinds.Star = elem_kinds.Star

-- an element of the path of an effect with its places moved
abbrev pub moved_elem : (Place → Place) → PathElem → PathElem
moved_elem to elem = record { kind = moved_elem_kind to elem.kind; place = to elem.place }

-- the path of an effect with its places moved
abbrev pub moved_path : (Place → Place) → Path → Path
moved_path to path = record { elems = map (moved_elem to) path.elems; place = to path.place }

-- an element of the path of a cell with its place moved
abbrev pub moved_cell_elem : (Place → Place) → CellElem → CellElem
moved_cell_elem to elem = record { kind = elem.kind; place = to elem.place }

-- the path of a cell with its places moved
abbrev pub moved_cell_path : (Place → Place) → CellPath → CellPath
moved_cell_path to path = record { elems = map (moved_cell_elem to) path.elems; place = to path.place }

-- a declaration of cells with its places moved
abbrev pub moved_cell : (Place → Place) → CellDecl → CellDecl
moved_cell to cell = record { name = moved_name to cell.name; shape = cell.shape; path = moved_cell_path to cell.path }

-- a clause of effects with its places moved
abbrev pub moved_clause : (Place → Place) → Clause → Clause
moved_clause to clause = record { write = clause.write; paths = map (moved_path to) clause.paths }

-- a method or a task with its places moved
abbrev pub moved_decl : (Place → Place) → Decl → Decl
moved_decl to decl = record {
  returns = decl.returns;
  name = moved_name to decl.name;
  params = map (moved_name to) decl.params;
  effects = map (moved_clause to) decl.effects;
  body = moved_block to decl.body;
}

-- a declaration of a program with its places moved
abbrev pub moved_item : (Place → Place) → Item → Item
moved_item to (items.Regions names) = items.Regions (map (moved_name to) names)
moved_item to (items.Cell cell) = items.Cell (moved_cell to cell)
moved_item to (items.Method decl) = items.Method (moved_decl to decl)
moved_item to (items.Task deterministic decl) = items.Task deterministic (moved_decl to decl)

-- a tree with each place in it moved, that of the end of the text, too
abbrev pub moved_tree : (Place → Place) → Ast → Ast
moved_tree to tree = record { items = map (moved_item to) tree.items; end = to tree.end }
