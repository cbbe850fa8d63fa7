-- A tree whose places are moved means the program with its places moved.
use Rattle.std.proofs.Common.{◌≡◌, ℕ, ◌+◌, Bool, false, List, [], ◌∷◌, map, codes, refl, ap, ◌∙◌}
use Rattle.std.specs.List.{flat_map}
use Rattle.std.proofs.lemmas.List.{length-map}
use Rattle.twe_base.specs.declared.place.Place.{Place}
use Rattle.region_paths.specs.declared.elements.Elem.{Elem}
use Rattle.region_paths.specs.declared.elements.Elem.TheVariants as elems
use Rattle.region_paths.specs.Written.{WrittenPath}
use Rattle.effect_sets.specs.declared.effects.Effect.{Effect}
use Rattle.twe_ast.specs.declared.item.Ast.{Ast}
use Rattle.twe_ast.specs.declared.item.CellDecl as written_cell
use Rattle.twe_ast.specs.declared.item.Clause.{Clause}
use Rattle.twe_ast.specs.declared.item.Decl as written_decl
use Rattle.twe_ast.specs.declared.item.Item.{Item}
use Rattle.twe_ast.specs.declared.item.Item.TheVariants as items
use Rattle.twe_ast.specs.declared.name.Name.{Name}
use Rattle.twe_ast.specs.declared.path.CellElem.{CellElem}
use Rattle.twe_ast.specs.declared.path.CellElemKind.{CellElemKind}
use Rattle.twe_ast.specs.declared.path.CellElemKind.TheVariants as cell_kinds
use Rattle.twe_ast.specs.declared.path.CellPath.{CellPath}
use Rattle.twe_ast.specs.declared.path.Path.{Path}
use Rattle.twe_ast.specs.declared.path.PathElem.{PathElem}
use Rattle.twe_ast.specs.declared.path.PathElemKind.{PathElemKind}
use Rattle.twe_ast.specs.declared.path.PathElemKind.TheVariants as elem_kinds
use Rattle.twe_program.specs.Program.{Program, size_of}
use Rattle.name_check.specs.cell_limits.GoesOver.{cells_of}
use Rattle.name_check.specs.declared.names.GlobalName.{GlobalName}
use Rattle.name_check.specs.declared.scope.LocalName.{LocalName}
use Rattle.name_check.specs.Names.{at_start, globals_of, binding_of}
use Rattle.name_check.specs.BodyScope.{after_all, params_of}
use Rattle.name_check.specs.Sites.{at_body}
use Rattle.name_check.specs.Limits.{is_star}
use Rattle.twe_names.specs.BodyMeaning.{statements_of, task_number}
use Rattle.twe_names.specs.PathMeaning.{region_number, elem_of_kind, elems_of, before_star, after_star, path_meaning, effects_of_clause, summary_meaning, elem_of_cell_kind, cell_path_of}
use Rattle.twe_names.specs.Meaning.{regions_of_item, dims_of, initial_of, returns_value, cells_from, declared_body, decl_of, methods_of_item, tasks_of_item, program_of}
use Rattle.moved_places.specs.MovedExpression.{moved_name}
use Rattle.moved_places.specs.MovedStatement.{moved_block}
use Rattle.moved_places.specs.MovedTree as trees
use Rattle.moved_places.specs.MovedTree.{moved_elem_kind, moved_elem, moved_path, moved_cell_elem, moved_clause, moved_item, moved_tree}
use Rattle.moved_places.specs.MovedProgram.{moved_cell, moved_body, moved_decl, moved_statements, moved_program}
use Rattle.moved_places.proofs.Lists.{same-flat_map, same-map, same-any, same-taken, same-left}
use Rattle.moved_places.proofs.MovedNeeds.{moved_global}
use Rattle.moved_places.proofs.Bindings.{same-globals, global-same, binding-same}
use Rattle.moved_places.proofs.Sites.{after_all-same, close-moved}
use Rattle.moved_places.proofs.Items.{params_of-same, at_body-same, moved-cells}
use Rattle.moved_places.proofs.NameRules.{star-same}
use Rattle.moved_places.proofs.Bodies.{statements-places}

module _ (to : Place → Place) where
  module _ (globals : List GlobalName) where
    abbrev moved_globals : List GlobalName
    moved_globals = map (moved_global to) globals

    kind-means : (params : List LocalName) (kind : PathElemKind) → elem_of_kind moved_globals params (moved_elem_kind to kind) ≡ elem_of_kind globals params kind
    kind-means params (elem_kinds.Name text) = ap (λ o. elems.Name (region_number o) ∷ []) (global-same to globals text)
    kind-means params (elem_kinds.Index index) = refl
    kind-means params (elem_kinds.Variable name) = refl
    kind-means params elem_kinds.AnyIndex = refl
    kind-means params elem_kinds.Star = refl

    elems-mean : (params : List LocalName) (all : List PathElem) → elems_of moved_globals params (map (moved_elem to) all) ≡ elems_of globals params all
    elems-mean params all =
        same-flat_map (moved_elem to) (λ (elem : PathElem). elem_of_kind moved_globals params elem.kind) (λ (elem : PathElem). elem_of_kind globals params elem.kind)
        (λ elem. kind-means params elem.kind) all

    path-means : (params : List LocalName) (path : Path) → path_meaning moved_globals params (moved_path to path) ≡ path_meaning globals params path
    path-means params path =
        let front : elems_of moved_globals params (before_star (map (moved_elem to) path.elems)) ≡ elems_of globals params (before_star path.elems) =
        ap (elems_of moved_globals params) (same-taken (moved_elem to) is_star (star-same to) path.elems) ∙ elems-mean params (before_star path.elems) in
        let back : elems_of moved_globals params (after_star (map (moved_elem to) path.elems)) ≡ elems_of globals params (after_star path.elems) =
        ap (elems_of moved_globals params) (same-left (moved_elem to) is_star (star-same to) path.elems) ∙ elems-mean params (after_star path.elems) in
        λ i. record { elems = front i; star = same-any (moved_elem to) is_star (star-same to) path.elems i; tail = back i }

    clause-means : (params : List LocalName) (clause : Clause) → effects_of_clause moved_globals params (moved_clause to clause) ≡ effects_of_clause globals params clause
    clause-means params clause =
        same-map (moved_path to) (λ (path : Path). record { write = clause.write; path = path_meaning moved_globals params path }) (λ (path : Path). record { write = clause.write; path = path_meaning globals params path })
        (λ path. ap (λ (p : WrittenPath). record { write = clause.write; path = p }) (path-means params path)) clause.paths

    summary-means : (decl : written_decl.Decl) → summary_meaning moved_globals (trees.moved_decl to decl) ≡ summary_meaning globals decl
    summary-means decl =
        ap (λ (effects : List Effect). record { effects = effects })
        (ap (λ params. flat_map (effects_of_clause moved_globals params) (map (moved_clause to) decl.effects)) (params_of-same to decl)
        ∙ same-flat_map (moved_clause to) (effects_of_clause moved_globals (params_of decl)) (effects_of_clause globals (params_of decl)) (clause-means (params_of decl)) decl.effects)

    cell_kind-means : (kind : CellElemKind) → elem_of_cell_kind moved_globals kind ≡ elem_of_cell_kind globals kind
    cell_kind-means (cell_kinds.Name text) = ap (λ o. elems.Name (region_number o)) (global-same to globals text)
    cell_kind-means (cell_kinds.Index index) = refl

    cell_path-means : (path : CellPath) → cell_path_of moved_globals (trees.moved_cell_path to path) ≡ cell_path_of globals path
    cell_path-means path =
        ap (λ (es : List Elem). record { elems = es; star = false; tail = [] })
        (same-map (moved_cell_elem to) (λ (elem : CellElem). elem_of_cell_kind moved_globals elem.kind) (λ (elem : CellElem). elem_of_cell_kind globals elem.kind)
        (λ elem. cell_kind-means elem.kind) path.elems)

    cells-mean : (first : ℕ) (cells : List written_cell.CellDecl) → cells_from moved_globals first (map (trees.moved_cell to) cells) ≡ map (moved_cell to) (cells_from globals first cells)
    cells-mean first [] = refl
    cells-mean first (cell ∷ cells) =
        λ i. (record {
          name = cell.name.text;
          path = cell_path-means cell.path i;
          dims = dims_of cell.shape;
          first = first;
          init = initial_of cell.shape;
          place = to cell.name.place;
        }) ∷ cells-mean (first + size_of (dims_of cell.shape)) cells i

    body-means : (decl : written_decl.Decl) → declared_body moved_globals (trees.moved_decl to decl) ≡ moved_body to (declared_body globals decl)
    body-means decl =
        let end : after_all moved_globals (at_body (trees.moved_decl to decl)) (moved_block to decl.body) ≡ after_all globals (at_body decl) decl.body =
        ap (λ here. after_all moved_globals here (moved_block to decl.body)) (at_body-same to decl) ∙ after_all-same to globals (at_body decl) decl.body in
        let block : statements_of moved_globals (at_body (trees.moved_decl to decl)) (moved_block to decl.body) ≡ moved_statements to (statements_of globals (at_body decl) decl.body) =
        ap (λ here. statements_of moved_globals here (moved_block to decl.body)) (at_body-same to decl) ∙ statements-places to globals (at_body decl) decl.body in
        λ i. record { block = block i; vars = (end i).vars; futures = (end i).futures; points = (end i).points + 1; close = close-moved to decl.body i }

    decl-means : (deterministic : Bool) (decl : written_decl.Decl) → decl_of moved_globals deterministic (trees.moved_decl to decl) ≡ moved_decl to (decl_of globals deterministic decl)
    decl-means deterministic decl = λ i. record {
      name = decl.name.text;
      params = length-map decl.params (moved_name to) i;
      int = returns_value decl.returns;
      deterministic = deterministic;
      summary = summary-means decl i;
      body = body-means decl i;
      place = to decl.name.place;
    }

    methods-mean : (all : List Item) → flat_map (methods_of_item moved_globals) (map (moved_item to) all) ≡ map (moved_decl to) (flat_map (methods_of_item globals) all)
    methods-mean [] = refl
    methods-mean (items.Regions names ∷ all) = methods-mean all
    methods-mean (items.Cell cell ∷ all) = methods-mean all
    methods-mean (items.Method decl ∷ all) = λ i. decl-means false decl i ∷ methods-mean all i
    methods-mean (items.Task deterministic decl ∷ all) = methods-mean all

    tasks-mean : (all : List Item) → flat_map (tasks_of_item moved_globals) (map (moved_item to) all) ≡ map (moved_decl to) (flat_map (tasks_of_item globals) all)
    tasks-mean [] = refl
    tasks-mean (items.Regions names ∷ all) = tasks-mean all
    tasks-mean (items.Cell cell ∷ all) = tasks-mean all
    tasks-mean (items.Method decl ∷ all) = tasks-mean all
    tasks-mean (items.Task deterministic decl ∷ all) = λ i. decl-means deterministic decl i ∷ tasks-mean all i

  item-regions : (item : Item) → regions_of_item (moved_item to item) ≡ regions_of_item item
  item-regions (items.Regions names) = same-map (moved_name to) (λ (name : Name). name.text) (λ (name : Name). name.text) (λ name. refl) names
  item-regions (items.Cell cell) = refl
  item-regions (items.Method decl) = refl
  item-regions (items.Task deterministic decl) = refl

  -- the program of items, if these are the global names
  abbrev program_with : List GlobalName → List Item → Program
  program_with globals all = record {
    regions = codes "Console" ∷ flat_map regions_of_item all;
    cells = cells_from globals 0 (cells_of all);
    methods = flat_map (methods_of_item globals) all;
    tasks = flat_map (tasks_of_item globals) all;
    main = task_number (binding_of globals [] (codes "main"));
  }

  pub moved-means : (ast : Ast) → program_of (moved_tree to ast) ≡ moved_program to (program_of ast)
  moved-means ast =
      let globals = globals_of ast in
      ap (λ names. program_with names (map (moved_item to) ast.items)) (same-globals to at_start ast.items)
      ∙ (λ i. record {
        regions = codes "Console" ∷ same-flat_map (moved_item to) regions_of_item regions_of_item item-regions ast.items i;
        cells = (ap (cells_from (map (moved_global to) globals) 0) (moved-cells to ast.items)
            ∙ cells-mean globals 0 (cells_of ast.items)) i;
        methods = methods-mean globals ast.items i;
        tasks = tasks-mean globals ast.items i;
        main = task_number (binding-same to globals [] (codes "main") i);
      })
