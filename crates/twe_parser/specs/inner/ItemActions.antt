-- The semantic actions that make declarations.
use Rattle.std.specs.Prelude.{ℕ, List, [], ◌∷◌, ◌++◌, Bool, true, false, None, Some}
use Rattle.twe_ast.specs.declared.item.CellShape.{CellShape}
use Rattle.twe_ast.specs.declared.item.CellShape.TheVariants as shapes
use Rattle.twe_ast.specs.declared.item.Decl.{Decl}
use Rattle.twe_ast.specs.declared.item.Initial.{Initial}
use Rattle.twe_ast.specs.declared.item.Item.{Item}
use Rattle.twe_ast.specs.declared.item.Item.TheVariants as items
use Rattle.twe_ast.specs.declared.item.ReturnType.{ReturnType}
use Rattle.twe_ast.specs.declared.path.CellElem.{CellElem}
use Rattle.twe_ast.specs.declared.path.CellElemKind.TheVariants as cell_elem_kinds
use Rattle.twe_ast.specs.declared.path.PathElem.{PathElem}
use Rattle.twe_ast.specs.declared.path.PathElemKind.TheVariants as elem_kinds
use Rattle.twe_parser.specs.declared.symbol.CellKind.{CellKind}
use Rattle.twe_parser.specs.declared.symbol.CellKind.TheVariants as cells
use Rattle.twe_parser.specs.declared.symbol.ItemAction.{ItemAction}
use Rattle.twe_parser.specs.declared.symbol.ItemAction.TheVariants as actions
use Rattle.twe_parser.specs.declared.value_stacks.ValueStacks.{ValueStacks}
use Rattle.twe_base.specs.Stacks.{top, below}
use Rattle.twe_parser.specs.Values.{literal_value_of, negative_of}
use Rattle.twe_parser.specs.inner.Kinds.{is_write}
use Rattle.twe_parser.specs.inner.ValueStacks.{nowhere, nameless, no_block}

-- one more declaration
abbrev pub with_item : Item → ValueStacks → ValueStacks
with_item item w = record w { items = w.items ++ item ∷ [] }

-- the shape of cells with the sizes on top of the numbers
abbrev pub shape_from : CellKind → List ℕ → CellShape
shape_from cells.Scalar numbers = shapes.Scalar None
shape_from cells.Array numbers = shapes.Array (top numbers 0)
shape_from cells.Grid numbers = shapes.Grid (top (below numbers) 0) (top numbers 0)

-- the numbers that are left below the sizes of cells
abbrev pub left_from : CellKind → List ℕ → List ℕ
left_from cells.Scalar numbers = numbers
left_from cells.Array numbers = below numbers
left_from cells.Grid numbers = below (below numbers)

-- the initial value of a cell, from whether there is a `-` and from the literal
abbrev pub initial_of : Bool → ℕ → Initial
initial_of true n = record { minus = true; value = negative_of n }
initial_of false n = record { minus = false; value = literal_value_of n }

-- the stacks after a declaration of cells of this shape
abbrev pub with_cell : CellShape → ValueStacks → ValueStacks
with_cell shape w =
    with_item (items.Cell (record {
      name = top w.names nameless;
      shape = shape;
      path = record { elems = w.cell_elems; place = top w.places nowhere };
    }))
    (record w { names = below w.names; places = below w.places; cell_elems = [] })

-- the declaration of a method or a task from the stacks
abbrev pub decl_from : ReturnType → ValueStacks → Decl
decl_from returns w = record {
  returns = returns;
  name = top w.names nameless;
  params = w.listed;
  effects = w.clauses;
  body = top w.blocks no_block;
}

-- the stacks without what `decl_from` takes from them
abbrev pub without_decl : ValueStacks → ValueStacks
without_decl w = record w { names = below w.names; listed = []; clauses = []; blocks = below w.blocks }

-- one more element of the path of an effect
abbrev pub with_elem : PathElem → ValueStacks → ValueStacks
with_elem elem w = record w { elems = w.elems ++ elem ∷ [] }

-- one more element of the path of a cell
abbrev pub with_cell_elem : CellElem → ValueStacks → ValueStacks
with_cell_elem elem w = record w { cell_elems = w.cell_elems ++ elem ∷ [] }

-- the stacks after an action that makes a declaration or a part of one
abbrev pub perform_item : ItemAction → ValueStacks → ValueStacks
perform_item actions.KeepName w = record w { listed = w.listed ++ top w.names nameless ∷ []; names = below w.names }
perform_item actions.Regions w = with_item (items.Regions w.listed) (record w { listed = [] })
perform_item actions.CellElemName w =
    let name = top w.names nameless in
    with_cell_elem (record { kind = cell_elem_kinds.Name name.text; place = name.place }) (record w { names = below w.names })
perform_item actions.CellElemIndex w =
    with_cell_elem (record { kind = cell_elem_kinds.Index (top w.numbers 0); place = top w.places nowhere })
    (record w { numbers = below w.numbers; places = below w.places })
perform_item (actions.Cell kind) w = with_cell (shape_from kind w.numbers) (record w { numbers = left_from kind w.numbers })
perform_item (actions.CellInitial minus) w =
    with_cell (shapes.Scalar (Some (initial_of minus (top w.numbers 0)))) (record w { numbers = below w.numbers })
perform_item actions.ElemName w =
    let name = top w.names nameless in
    with_elem (record { kind = elem_kinds.Name name.text; place = name.place }) (record w { names = below w.names })
perform_item actions.ElemIndex w =
    with_elem (record { kind = elem_kinds.Index (top w.numbers 0); place = top w.places nowhere })
    (record w { numbers = below w.numbers; places = below w.places })
perform_item actions.ElemVariable w =
    with_elem (record { kind = elem_kinds.Variable (top w.names nameless); place = top w.places nowhere })
    (record w { names = below w.names; places = below w.places })
perform_item actions.ElemAny w =
    with_elem (record { kind = elem_kinds.AnyIndex; place = top w.places nowhere }) (record w { places = below w.places })
perform_item actions.ElemStar w =
    with_elem (record { kind = elem_kinds.Star; place = top w.places nowhere }) (record w { places = below w.places })
perform_item actions.KeepPath w = record w {
  paths = w.paths ++ (record { elems = w.elems; place = top w.places nowhere }) ∷ [];
  elems = [];
  places = below w.places;
}
perform_item (actions.KeepClause access) w = record w {
  clauses = w.clauses ++ (record { write = is_write access; paths = w.paths }) ∷ [];
  paths = [];
}
perform_item (actions.Method returns) w = with_item (items.Method (decl_from returns w)) (without_decl w)
perform_item (actions.Task deterministic returns) w = with_item (items.Task deterministic (decl_from returns w)) (without_decl w)
