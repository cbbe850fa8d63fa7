-- Declarations with the places of the tokens that they are printed as.
use Rattle.std.proofs.Common.{◌≡◌, Bool, true, false, List, [], ◌∷◌, map, refl, ap}
use Rattle.twe_base.specs.declared.place.Place.{Place}
use Rattle.twe_ast.specs.declared.item.CellDecl.{CellDecl}
use Rattle.twe_ast.specs.declared.item.Clause.{Clause}
use Rattle.twe_ast.specs.declared.item.Decl.{Decl}
use Rattle.twe_ast.specs.declared.item.Item.{Item}
use Rattle.twe_ast.specs.declared.item.Item.TheVariants as items
use Rattle.twe_ast.specs.declared.name.Name.{Name}
use Rattle.twe_ast.specs.declared.path.CellElem.{CellElem}
use Rattle.twe_ast.specs.declared.path.CellPath.{CellPath}
use Rattle.twe_ast.specs.declared.path.Path.{Path}
use Rattle.twe_ast.specs.declared.path.PathElem.{PathElem}
use Rattle.twe_ast.specs.declared.path.PathElemKind.{PathElemKind}
use Rattle.twe_ast.specs.declared.path.PathElemKind.TheVariants as elem_kinds
use Rattle.twe_lexer.specs.declared.fixed.Fixed.TheVariants as fixed
use Rattle.ast_printer.specs.Text.{when}
use Rattle.ast_printer.specs.PathTokens.{elem_tokens, needs_root, path_tokens, cell_elem_tokens, cell_needs_root}
use Rattle.ast_printer.specs.ItemTokens.{size_tokens, params_tokens, clause_tokens, effects_tokens, item_tokens}
use Rattle.ast_printer.specs.BareExpression.{nowhere, bare_name}
use Rattle.ast_printer.specs.BareItem.{bare_elem_kind, bare_elem, bare_path, bare_cell_elem, bare_cell_path, bare_clause, bare_decl, bare_item}
use Rattle.ast_printer.proofs.Supply.{here, next, after, placed_name}
use Rattle.ast_printer.proofs.PlacedStatement.{second, third, placed_block, same_block}

abbrev pub placed_elem_kind : PathElemKind → List Place → PathElemKind
placed_elem_kind (elem_kinds.Name text) s = elem_kinds.Name text
placed_elem_kind (elem_kinds.Index index) s = elem_kinds.Index index
placed_elem_kind (elem_kinds.Variable name) s = elem_kinds.Variable (placed_name name (next s))
placed_elem_kind elem_kinds.AnyIndex s = elem_kinds.AnyIndex
placed_elem_kind elem_kinds.Star s = elem_kinds.Star

abbrev pub placed_elem : PathElem → List Place → PathElem
placed_elem elem s = record { kind = placed_elem_kind elem.kind s; place = here s }

abbrev pub placed_elems : Bool → List PathElem → List Place → List PathElem
placed_elems later [] s = []
placed_elems later (first ∷ others) s = placed_elem first (after (when later fixed.Colon) s) ∷ placed_elems true others (after (elem_tokens first.kind) (after (when later fixed.Colon) s))

abbrev pub placed_path : Path → List Place → Path
placed_path path s = record { elems = placed_elems (needs_root path.elems) path.elems (after (when (needs_root path.elems) fixed.Root) s); place = here s }

abbrev pub placed_cell_elem : CellElem → List Place → CellElem
placed_cell_elem elem s = record { kind = elem.kind; place = here s }

abbrev pub placed_cell_elems : Bool → List CellElem → List Place → List CellElem
placed_cell_elems later [] s = []
placed_cell_elems later (first ∷ others) s =
    placed_cell_elem first (after (when later fixed.Colon) s) ∷ placed_cell_elems true others (after (cell_elem_tokens first.kind) (after (when later fixed.Colon) s))

abbrev pub placed_cell_path : CellPath → List Place → CellPath
placed_cell_path path s =
    record { elems = placed_cell_elems (cell_needs_root path.elems) path.elems (after (when (cell_needs_root path.elems) fixed.Root) s); place = here s }

abbrev pub placed_names : Bool → List Name → List Place → List Name
placed_names later [] s = []
placed_names later (first ∷ others) s = placed_name first (after (when later fixed.Comma) s) ∷ placed_names true others (next (after (when later fixed.Comma) s))

abbrev pub placed_params : Bool → List Name → List Place → List Name
placed_params later [] s = []
placed_params later (first ∷ others) s = placed_name first (next (after (when later fixed.Comma) s)) ∷ placed_params true others (second (after (when later fixed.Comma) s))

abbrev pub placed_paths : Bool → List Path → List Place → List Path
placed_paths later [] s = []
placed_paths later (first ∷ others) s = placed_path first (after (when later fixed.Comma) s) ∷ placed_paths true others (after (path_tokens first) (after (when later fixed.Comma) s))

abbrev pub placed_clause : Clause → List Place → Clause
placed_clause clause s = record { write = clause.write; paths = placed_paths false clause.paths (next s) }

abbrev pub placed_clauses : List Clause → List Place → List Clause
placed_clauses [] s = []
placed_clauses (first ∷ others) s = placed_clause first s ∷ placed_clauses others (after (clause_tokens first) s)

abbrev pub placed_cell : CellDecl → List Place → CellDecl
placed_cell cell s = record {
  name = placed_name cell.name (next s);
  shape = cell.shape;
  path = placed_cell_path cell.path (next (after (size_tokens cell.shape) (second s)));
}

-- the places after the parameters and their `)`
abbrev pub at_effects : Decl → List Place → List Place
at_effects decl s = next (after (params_tokens false decl.params) (third s))

abbrev pub placed_decl : Decl → List Place → Decl
placed_decl decl s = record {
  returns = decl.returns;
  name = placed_name decl.name (next s);
  params = placed_params false decl.params (third s);
  effects = placed_clauses decl.effects (at_effects decl s);
  body = placed_block decl.body (next (after (effects_tokens decl.effects) (at_effects decl s)));
}

abbrev pub placed_item : Item → List Place → Item
placed_item (items.Regions names) s = items.Regions (placed_names false names (next s))
placed_item (items.Cell cell) s = items.Cell (placed_cell cell s)
placed_item (items.Method decl) s = items.Method (placed_decl decl s)
placed_item (items.Task deterministic decl) s = items.Task deterministic (placed_decl decl (next (after (when deterministic fixed.Deterministic) s)))

abbrev pub placed_items : List Item → List Place → List Item
placed_items [] s = []
placed_items (first ∷ others) s = placed_item first s ∷ placed_items others (after (item_tokens first) s)

same_kind : (kind : PathElemKind) (s : List Place) → bare_elem_kind (placed_elem_kind kind s) ≡ bare_elem_kind kind
same_kind (elem_kinds.Name text) s = refl
same_kind (elem_kinds.Index index) s = refl
same_kind (elem_kinds.Variable name) s = refl
same_kind elem_kinds.AnyIndex s = refl
same_kind elem_kinds.Star s = refl

same_elems : (later : Bool) (elems : List PathElem) (s : List Place) → map bare_elem (placed_elems later elems s) ≡ map bare_elem elems
same_elems later [] s = refl
same_elems later (first ∷ others) s =
    λ i. (record { kind = same_kind first.kind (after (when later fixed.Colon) s) i; place = nowhere }) ∷ same_elems true others (after (elem_tokens first.kind) (after (when later fixed.Colon) s)) i

same_path : (path : Path) (s : List Place) → bare_path (placed_path path s) ≡ bare_path path
same_path path s = λ i. record { elems = same_elems (needs_root path.elems) path.elems (after (when (needs_root path.elems) fixed.Root) s) i; place = nowhere }

same_cell_elems : (later : Bool) (elems : List CellElem) (s : List Place) → map bare_cell_elem (placed_cell_elems later elems s) ≡ map bare_cell_elem elems
same_cell_elems later [] s = refl
same_cell_elems later (first ∷ others) s =
    ap (λ more. bare_cell_elem first ∷ more) (same_cell_elems true others (after (cell_elem_tokens first.kind) (after (when later fixed.Colon) s)))

same_cell_path : (path : CellPath) (s : List Place) → bare_cell_path (placed_cell_path path s) ≡ bare_cell_path path
same_cell_path path s = λ i. record { elems = same_cell_elems (cell_needs_root path.elems) path.elems (after (when (cell_needs_root path.elems) fixed.Root) s) i; place = nowhere }

same_names : (later : Bool) (names : List Name) (s : List Place) → map bare_name (placed_names later names s) ≡ map bare_name names
same_names later [] s = refl
same_names later (first ∷ others) s = ap (λ more. bare_name first ∷ more) (same_names true others (next (after (when later fixed.Comma) s)))

same_params : (later : Bool) (names : List Name) (s : List Place) → map bare_name (placed_params later names s) ≡ map bare_name names
same_params later [] s = refl
same_params later (first ∷ others) s = ap (λ more. bare_name first ∷ more) (same_params true others (second (after (when later fixed.Comma) s)))

same_paths : (later : Bool) (paths : List Path) (s : List Place) → map bare_path (placed_paths later paths s) ≡ map bare_path paths
same_paths later [] s = refl
same_paths later (first ∷ others) s =
    λ i. same_path first (after (when later fixed.Comma) s) i ∷ same_paths true others (after (path_tokens first) (after (when later fixed.Comma) s)) i

same_clauses : (clauses : List Clause) (s : List Place) → map bare_clause (placed_clauses clauses s) ≡ map bare_clause clauses
same_clauses [] s = refl
same_clauses (first ∷ others) s = λ i. (record { write = first.write; paths = same_paths false first.paths (next s) i }) ∷ same_clauses others (after (clause_tokens first) s) i

same_decl : (decl : Decl) (s : List Place) → bare_decl (placed_decl decl s) ≡ bare_decl decl
same_decl decl s = λ i. record {
  returns = decl.returns;
  name = bare_name decl.name;
  params = same_params false decl.params (third s) i;
  effects = same_clauses decl.effects (at_effects decl s) i;
  body = same_block decl.body (next (after (effects_tokens decl.effects) (at_effects decl s))) i;
}

same_item : (item : Item) (s : List Place) → bare_item (placed_item item s) ≡ bare_item item
same_item (items.Regions names) s = ap items.Regions (same_names false names (next s))
same_item (items.Cell cell) s =
    λ i. items.Cell (record { name = bare_name cell.name; shape = cell.shape; path = same_cell_path cell.path (next (after (size_tokens cell.shape) (second s))) i })
same_item (items.Method decl) s = ap items.Method (same_decl decl s)
same_item (items.Task deterministic decl) s = ap (items.Task deterministic) (same_decl decl (next (after (when deterministic fixed.Deterministic) s)))

pub same_items : (items : List Item) (s : List Place) → map bare_item (placed_items items s) ≡ map bare_item items
same_items [] s = refl
same_items (first ∷ others) s = λ i. same_item first s i ∷ same_items others (after (item_tokens first) s) i
