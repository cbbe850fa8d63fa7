-- Declarations and programs without their places.
use Rattle.std.specs.Prelude.{◌≡◌, map}
use Rattle.twe_ast.specs.declared.item.Ast.{Ast}
use Rattle.twe_ast.specs.declared.item.CellDecl.{CellDecl}
use Rattle.twe_ast.specs.declared.item.Clause.{Clause}
use Rattle.twe_ast.specs.declared.item.Decl.{Decl}
use Rattle.twe_ast.specs.declared.item.Item.{Item}
use Rattle.twe_ast.specs.declared.item.Item.TheVariants as items
use Rattle.twe_ast.specs.declared.path.CellElem.{CellElem}
use Rattle.twe_ast.specs.declared.path.CellPath.{CellPath}
use Rattle.twe_ast.specs.declared.path.Path.{Path}
use Rattle.twe_ast.specs.declared.path.PathElem.{PathElem}
use Rattle.twe_ast.specs.declared.path.PathElemKind.{PathElemKind}
use Rattle.twe_ast.specs.declared.path.PathElemKind.TheVariants as elem_kinds
use Rattle.ast_printer.specs.BareExpression.{nowhere, bare_name}
use Rattle.ast_printer.specs.BareStatement.{bare_block}

-- what an element of the path of an effect is, without the place of a parameter
abbrev pub bare_elem_kind : PathElemKind → PathElemKind
bare_elem_kind (elem_kinds.Name text) = elem_kinds.Name text
bare_elem_kind (elem_kinds.Index index) = elem_kinds.Index index
bare_elem_kind (elem_kinds.Variable name) = elem_kinds.Variable (bare_name name)
bare_elem_kind elem_kinds.AnyIndex = elem_kinds.AnyIndex
bare_elem_kind elem_kinds.Star = elem_kinds.Star

-- an element of the path of an effect without its places
abbrev pub bare_elem : PathElem → PathElem
bare_elem elem = record { kind = bare_elem_kind elem.kind; place = nowhere }

-- the path of an effect without its places
abbrev pub bare_path : Path → Path
bare_path path = record { elems = map bare_elem path.elems; place = nowhere }

-- an element of the path of a cell without its place
abbrev pub bare_cell_elem : CellElem → CellElem
bare_cell_elem elem = record { kind = elem.kind; place = nowhere }

-- the path of a cell without its places
abbrev pub bare_cell_path : CellPath → CellPath
bare_cell_path path = record { elems = map bare_cell_elem path.elems; place = nowhere }

-- a declaration of cells without its places
abbrev pub bare_cell : CellDecl → CellDecl
bare_cell cell = record { name = bare_name cell.name; shape = cell.shape; path = bare_cell_path cell.path }

-- a clause of effects without its places
abbrev pub bare_clause : Clause → Clause
bare_clause clause = record { write = clause.write; paths = map bare_path clause.paths }

-- a method or a task without its places
abbrev pub bare_decl : Decl → Decl
bare_decl decl = record {
  returns = decl.returns;
  name = bare_name decl.name;
  params = map bare_name decl.params;
  effects = map bare_clause decl.effects;
  body = bare_block decl.body;
}

-- a declaration of a program without its places
abbrev pub bare_item : Item → Item
bare_item (items.Regions names) = items.Regions (map bare_name names)
bare_item (items.Cell cell) = items.Cell (bare_cell cell)
bare_item (items.Method decl) = items.Method (bare_decl decl)
bare_item (items.Task deterministic decl) = items.Task deterministic (bare_decl decl)

-- two trees are equal except for the places in them
abbrev pub EqualButForPlaces : Ast → Ast → Type 0
EqualButForPlaces tree other = map bare_item tree.items ≡ map bare_item other.items
