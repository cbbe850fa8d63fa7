-- Nor do the declarations of a text, and what they need.
use Rattle.std.proofs.Common.{◌≡◌, List, [], ◌++◌, map, refl, ap, ◌∙◌}
use Rattle.std.specs.List.{flat_map}
use Rattle.std.proofs.lemmas.List.{length-map}
use Rattle.twe_base.specs.declared.place.Place.{Place}
use Rattle.twe_ast.specs.declared.item.Ast.{Ast}
use Rattle.twe_ast.specs.declared.item.CellDecl.{CellDecl}
use Rattle.twe_ast.specs.declared.item.Clause.{Clause}
use Rattle.twe_ast.specs.declared.item.Decl.{Decl}
use Rattle.twe_ast.specs.declared.item.Item.{Item}
use Rattle.twe_ast.specs.declared.item.Item.TheVariants as items
use Rattle.twe_ast.specs.declared.path.CellElem.{CellElem}
use Rattle.twe_ast.specs.declared.path.CellElemKind.{CellElemKind}
use Rattle.twe_ast.specs.declared.path.CellElemKind.TheVariants as cell_kinds
use Rattle.twe_ast.specs.declared.path.Path.{Path}
use Rattle.twe_ast.specs.declared.path.PathElem.{PathElem}
use Rattle.twe_ast.specs.declared.path.PathElemKind.{PathElemKind}
use Rattle.twe_ast.specs.declared.path.PathElemKind.TheVariants as elem_kinds
use Rattle.twe_ast.specs.declared.item.ReturnType.TheVariants as return_types
use Rattle.name_check.specs.declared.names.GlobalName.{GlobalName}
use Rattle.name_check.specs.Names.{at_start, globals_of}
use Rattle.name_check.specs.BodyScope.{params_of}
use Rattle.name_check.specs.Sites.{sites_at, sites_in_all, sites_of_params, asks_of_kind, asks_of_path, asks_of_clause, asks_of_cell_kind, asks_of_cell_path, at_body, sites_of_decl, sites_of_item, sites_of}
use Rattle.name_check.specs.Limits.{decls_of_item, decls_of, paths_of}
use Rattle.name_check.specs.cell_limits.GoesOver.{cells_of_item, cells_of}
use Rattle.moved_places.specs.MovedExpression.{moved_name}
use Rattle.moved_places.specs.MovedStatement.{moved_block}
use Rattle.moved_places.specs.MovedTree.{moved_elem_kind, moved_elem, moved_path, moved_cell_elem, moved_cell, moved_clause, moved_decl, moved_item, moved_tree}
use Rattle.moved_places.proofs.Lists.{moved-flat_map}
use Rattle.moved_places.proofs.MovedNeeds.{moved_global, moved_ask, moved_site}
use Rattle.moved_places.proofs.Bindings.{same-globals}
use Rattle.moved_places.proofs.Sites.{at-same, both-sites, params-same, sites_of_params-same, sites_all-same}

module _ (to : Place → Place) where
  kind-asks : (kind : PathElemKind) (place : Place) → asks_of_kind (moved_elem_kind to kind) (to place) ≡ map (moved_ask to) (asks_of_kind kind place)
  kind-asks (elem_kinds.Name text) place = refl
  kind-asks (elem_kinds.Index index) place = refl
  kind-asks (elem_kinds.Variable name) place = refl
  kind-asks elem_kinds.AnyIndex place = refl
  kind-asks elem_kinds.Star place = refl

  path-asks : (path : Path) → asks_of_path (moved_path to path) ≡ map (moved_ask to) (asks_of_path path)
  path-asks path =
      moved-flat_map (moved_elem to) (moved_ask to) (λ (elem : PathElem). asks_of_kind elem.kind elem.place) (λ (elem : PathElem). asks_of_kind elem.kind elem.place)
      (λ elem. kind-asks elem.kind elem.place) path.elems

  clause-asks : (clause : Clause) → asks_of_clause (moved_clause to clause) ≡ map (moved_ask to) (asks_of_clause clause)
  clause-asks clause = moved-flat_map (moved_path to) (moved_ask to) asks_of_path asks_of_path path-asks clause.paths

  cell_kind-asks : (kind : CellElemKind) (place : Place) → asks_of_cell_kind kind (to place) ≡ map (moved_ask to) (asks_of_cell_kind kind place)
  cell_kind-asks (cell_kinds.Name text) place = refl
  cell_kind-asks (cell_kinds.Index index) place = refl

  cell-asks : (cell : CellDecl) → asks_of_cell_path (moved_cell to cell).path ≡ map (moved_ask to) (asks_of_cell_path cell.path)
  cell-asks cell =
      moved-flat_map (moved_cell_elem to) (moved_ask to) (λ (elem : CellElem). asks_of_cell_kind elem.kind elem.place) (λ (elem : CellElem). asks_of_cell_kind elem.kind elem.place)
      (λ elem. cell_kind-asks elem.kind elem.place) cell.path.elems

  pub params_of-same : (decl : Decl) → params_of (moved_decl to decl) ≡ params_of decl
  params_of-same decl = params-same to 0 decl.params

  pub at_body-same : (decl : Decl) → at_body (moved_decl to decl) ≡ at_body decl
  at_body-same decl = λ i. record { locals = params_of-same decl i; points = 0; vars = length-map decl.params (moved_name to) i; futures = 0 }

  module _ (globals : List GlobalName) where
    decl-sites : (decl : Decl) → sites_of_decl (map (moved_global to) globals) (moved_decl to decl) ≡ map (moved_site to) (sites_of_decl globals decl)
    decl-sites decl =
        let params = sites_of_params decl.returns [] 0 decl.params in
        let effects = sites_at (params_of decl) decl.returns (flat_map asks_of_clause decl.effects) in
        let body = sites_in_all globals decl.returns (at_body decl) decl.body in
        both-sites to _ _ params (effects ++ body) (sites_of_params-same to decl.returns [] 0 decl.params)
        (both-sites to _ _ effects body
        (ap (λ locals. sites_at locals decl.returns (flat_map asks_of_clause (map (moved_clause to) decl.effects))) (params_of-same decl)
        ∙ at-same to (params_of decl) decl.returns _ (flat_map asks_of_clause decl.effects) (moved-flat_map (moved_clause to) (moved_ask to) asks_of_clause asks_of_clause clause-asks decl.effects))
        (ap (λ here. sites_in_all (map (moved_global to) globals) decl.returns here (moved_block to decl.body)) (at_body-same decl)
        ∙ sites_all-same to globals decl.returns (at_body decl) decl.body))

    item-sites : (item : Item) → sites_of_item (map (moved_global to) globals) (moved_item to item) ≡ map (moved_site to) (sites_of_item globals item)
    item-sites (items.Regions names) = refl
    item-sites (items.Cell cell) = at-same to [] return_types.Void _ (asks_of_cell_path cell.path) (cell-asks cell)
    item-sites (items.Method decl) = decl-sites decl
    item-sites (items.Task deterministic decl) = decl-sites decl

  pub moved-sites : (ast : Ast) → sites_of (moved_tree to ast) ≡ map (moved_site to) (sites_of ast)
  moved-sites ast =
      ap (λ globals. flat_map (sites_of_item globals) (map (moved_item to) ast.items)) (same-globals to at_start ast.items)
      ∙ moved-flat_map (moved_item to) (moved_site to) (sites_of_item (map (moved_global to) (globals_of ast))) (sites_of_item (globals_of ast)) (item-sites (globals_of ast)) ast.items

  item-decls : (item : Item) → decls_of_item (moved_item to item) ≡ map (moved_decl to) (decls_of_item item)
  item-decls (items.Regions names) = refl
  item-decls (items.Cell cell) = refl
  item-decls (items.Method decl) = refl
  item-decls (items.Task deterministic decl) = refl

  pub item-cells : (item : Item) → cells_of_item (moved_item to item) ≡ map (moved_cell to) (cells_of_item item)
  item-cells (items.Regions names) = refl
  item-cells (items.Cell cell) = refl
  item-cells (items.Method decl) = refl
  item-cells (items.Task deterministic decl) = refl

  pub moved-globals : (ast : Ast) → globals_of (moved_tree to ast) ≡ map (moved_global to) (globals_of ast)
  moved-globals ast = same-globals to at_start ast.items

  pub moved-decls : (ast : Ast) → decls_of (moved_tree to ast) ≡ map (moved_decl to) (decls_of ast)
  moved-decls ast = moved-flat_map (moved_item to) (moved_decl to) decls_of_item decls_of_item item-decls ast.items

  pub moved-cells : (all : List Item) → cells_of (map (moved_item to) all) ≡ map (moved_cell to) (cells_of all)
  moved-cells all = moved-flat_map (moved_item to) (moved_cell to) cells_of_item cells_of_item item-cells all

  pub moved-paths : (decl : Decl) → paths_of (moved_decl to decl) ≡ map (moved_path to) (paths_of decl)
  moved-paths decl = moved-flat_map (moved_clause to) (moved_path to) (λ (clause : Clause). clause.paths) (λ (clause : Clause). clause.paths) (λ clause. refl) decl.effects
