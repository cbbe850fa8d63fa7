-- The indexes in the paths of a tree are literals of its text.
use Rattle.std.proofs.Common.{Bool, List, [], ◌∷◌}
use Rattle.std.specs.List.{All, Contains, flat_map}
use Rattle.std.proofs.lemmas.List.Elements.{All-nil, All-cons, All-append, All-contains}
use Rattle.twe_ast.specs.declared.item.CellDecl.{CellDecl}
use Rattle.twe_ast.specs.declared.item.Clause.{Clause}
use Rattle.twe_ast.specs.declared.item.Decl.{Decl}
use Rattle.twe_ast.specs.declared.item.Item.{Item}
use Rattle.twe_ast.specs.declared.path.CellElem.{CellElem}
use Rattle.twe_ast.specs.declared.path.CellPath.{CellPath}
use Rattle.twe_ast.specs.declared.path.Path.{Path}
use Rattle.twe_ast.specs.declared.path.PathElem.{PathElem}
use Rattle.twe_lexer.specs.declared.token.Token.{Token}
use Rattle.twe_parser.specs.Writes.{MorePaths, no_more_paths, more_paths, WritesClause, clause, MoreClauses, no_more_clauses, more_clauses, WritesEffects, pure, clauses, WritesDecl, decl, WritesItem, regions, cell, array, grid, method, task, deterministic_task, WritesItems, no_more_items, more_items}
use Rattle.twe_parser.specs.WritesPath.{WritesCellElem, cell_name, cell_index, MoreCellElems, no_more_cell_elems, more_cell_elems, WritesCellPath, cell_root, cell_region, WritesElem, name, index, parameter, any_index, star, MoreElems, no_more_elems, more_elems, WritesPath, root, region}
use Rattle.name_check.specs.cell_limits.GoesOver.{cells_of_item, cells_of}
use Rattle.name_check.specs.Limits.{decls_of_item, paths_of}
use Rattle.twe_names.specs.FromText.{IsSmall, IsSmallInCell}
use Rattle.twe_frontend.proofs.Literals.{SmallIndexes}
use Rattle.twe_frontend.proofs.Tails.{after-cell_elem, after-elem, after-path, after-clause, after-params, after-item}

below : (t : Token) (ts : List Token) → SmallIndexes (t ∷ ts) → SmallIndexes ts
below t ts small = small.1

-- the paths of cells

abbrev IsSmallElem : CellElem → Type 0
IsSmallElem elem = IsSmallInCell elem.kind

in_cell_elem : {elem : CellElem} {tokens rest : List Token} → WritesCellElem elem tokens rest → SmallIndexes tokens → IsSmallElem elem
in_cell_elem cell_name small = tt
in_cell_elem cell_index small = small.0

in_more_cell_elems : {elems : List CellElem} {tokens rest : List Token} → MoreCellElems elems tokens rest → SmallIndexes tokens → All IsSmallElem elems
in_more_cell_elems no_more_cell_elems small = All-nil IsSmallElem
in_more_cell_elems (more_cell_elems {first = e} {others = es} first others) small =
    All-cons IsSmallElem e es (in_cell_elem first small.1) (in_more_cell_elems others (after-cell_elem SmallIndexes below first small.1))

in_cell_path : {path : CellPath} {tokens rest : List Token} → WritesCellPath path tokens rest → SmallIndexes tokens → All IsSmallElem path.elems
in_cell_path (cell_root elems) small = in_more_cell_elems elems small.1
in_cell_path (cell_region {elems = es} elems) small = All-cons IsSmallElem _ es tt (in_more_cell_elems elems small.1)

abbrev IsSmallCell : CellDecl → Type 0
IsSmallCell it = All IsSmallElem it.path.elems

cells_in_item : {it : Item} {tokens rest : List Token} → WritesItem it tokens rest → SmallIndexes tokens → All IsSmallCell (cells_of_item it)
cells_in_item (regions others) small = All-nil IsSmallCell
cells_in_item (cell path start) small = All-cons IsSmallCell _ [] (in_cell_path path small.1.1.1) (All-nil IsSmallCell)
cells_in_item (array path) small = All-cons IsSmallCell _ [] (in_cell_path path small.1.1.1.1.1.1) (All-nil IsSmallCell)
cells_in_item (grid path) small = All-cons IsSmallCell _ [] (in_cell_path path small.1.1.1.1.1.1.1.1.1) (All-nil IsSmallCell)
cells_in_item (method it) small = All-nil IsSmallCell
cells_in_item (task it) small = All-nil IsSmallCell
cells_in_item (deterministic_task it) small = All-nil IsSmallCell

cells_in_items : {them : List Item} {tokens : List Token} → WritesItems them tokens → SmallIndexes tokens → All IsSmallCell (cells_of them)
cells_in_items no_more_items small = All-nil IsSmallCell
cells_in_items (more_items {first = first} {others = others} one more) small =
    All-append IsSmallCell (cells_of_item first) (cells_of others) (cells_in_item one small) (cells_in_items more (after-item SmallIndexes below one small))

pub cell_indexes : (them : List Item) (tokens : List Token) → WritesItems them tokens → SmallIndexes tokens → (it : CellDecl) → Contains (cells_of them) it → All (λ (elem : CellElem). IsSmallInCell elem.kind) it.path.elems
cell_indexes them tokens writes small it there = All-contains IsSmallCell (cells_of them) it (cells_in_items writes small) there

-- the paths of effects

abbrev IsSmallPathElem : PathElem → Type 0
IsSmallPathElem elem = IsSmall elem.kind

in_elem : {elem : PathElem} {tokens rest : List Token} → WritesElem elem tokens rest → SmallIndexes tokens → IsSmallPathElem elem
in_elem name small = tt
in_elem index small = small.0
in_elem parameter small = tt
in_elem any_index small = tt
in_elem star small = tt

in_more_elems : {elems : List PathElem} {tokens rest : List Token} → MoreElems elems tokens rest → SmallIndexes tokens → All IsSmallPathElem elems
in_more_elems no_more_elems small = All-nil IsSmallPathElem
in_more_elems (more_elems {first = e} {others = es} first others) small =
    All-cons IsSmallPathElem e es (in_elem first small.1) (in_more_elems others (after-elem SmallIndexes below first small.1))

abbrev IsSmallPath : Path → Type 0
IsSmallPath path = All IsSmallPathElem path.elems

in_path : {path : Path} {tokens rest : List Token} → WritesPath path tokens rest → SmallIndexes tokens → IsSmallPath path
in_path (root elems) small = in_more_elems elems small.1
in_path (region {elems = es} elems) small = All-cons IsSmallPathElem _ es tt (in_more_elems elems small.1)

in_more_paths : {paths : List Path} {tokens rest : List Token} → MorePaths paths tokens rest → SmallIndexes tokens → All IsSmallPath paths
in_more_paths no_more_paths small = All-nil IsSmallPath
in_more_paths (more_paths {first = p} {others = ps} first others) small =
    All-cons IsSmallPath p ps (in_path first small.1) (in_more_paths others (after-path SmallIndexes below first small.1))

in_clause : {it : Clause} {tokens rest : List Token} → WritesClause it tokens rest → SmallIndexes tokens → All IsSmallPath it.paths
in_clause (clause {first = p} {others = ps} first others) small =
    All-cons IsSmallPath p ps (in_path first small.1) (in_more_paths others (after-path SmallIndexes below first small.1))

abbrev paths_in : List Clause → List Path
paths_in them = flat_map (λ (it : Clause). it.paths) them

in_more_clauses : {them : List Clause} {tokens rest : List Token} → MoreClauses them tokens rest → SmallIndexes tokens → All IsSmallPath (paths_in them)
in_more_clauses no_more_clauses small = All-nil IsSmallPath
in_more_clauses (more_clauses {first = c} {others = cs} first others) small =
    All-append IsSmallPath c.paths (paths_in cs) (in_clause first small) (in_more_clauses others (after-clause SmallIndexes below first small))

in_effects : {them : List Clause} {tokens rest : List Token} → WritesEffects them tokens rest → SmallIndexes tokens → All IsSmallPath (paths_in them)
in_effects pure small = All-nil IsSmallPath
in_effects (clauses {first = c} {others = cs} first others) small =
    All-append IsSmallPath c.paths (paths_in cs) (in_clause first small) (in_more_clauses others (after-clause SmallIndexes below first small))

abbrev IsSmallDecl : Decl → Type 0
IsSmallDecl it = All IsSmallPath (paths_of it)

in_decl : {in_task : Bool} {it : Decl} {tokens rest : List Token} → WritesDecl in_task it tokens rest → SmallIndexes tokens → IsSmallDecl it
in_decl (decl names effects body) small = in_effects effects (after-params SmallIndexes below names small.1.1)

decls_in_item : {it : Item} {tokens rest : List Token} → WritesItem it tokens rest → SmallIndexes tokens → All IsSmallDecl (decls_of_item it)
decls_in_item (regions others) small = All-nil IsSmallDecl
decls_in_item (cell path start) small = All-nil IsSmallDecl
decls_in_item (array path) small = All-nil IsSmallDecl
decls_in_item (grid path) small = All-nil IsSmallDecl
decls_in_item (method {decl = d} it) small = All-cons IsSmallDecl d [] (in_decl it small) (All-nil IsSmallDecl)
decls_in_item (task {decl = d} it) small = All-cons IsSmallDecl d [] (in_decl it small.1) (All-nil IsSmallDecl)
decls_in_item (deterministic_task {decl = d} it) small = All-cons IsSmallDecl d [] (in_decl it small.1.1) (All-nil IsSmallDecl)

decls_in_items : {them : List Item} {tokens : List Token} → WritesItems them tokens → SmallIndexes tokens → All IsSmallDecl (flat_map decls_of_item them)
decls_in_items no_more_items small = All-nil IsSmallDecl
decls_in_items (more_items {first = first} {others = others} one more) small =
    All-append IsSmallDecl (decls_of_item first) (flat_map decls_of_item others) (decls_in_item one small) (decls_in_items more (after-item SmallIndexes below one small))

pub indexes : (them : List Item) (tokens : List Token) → WritesItems them tokens → SmallIndexes tokens → (it : Decl) (path : Path) → Contains (flat_map decls_of_item them) it → Contains (paths_of it) path
    → All (λ (elem : PathElem). IsSmall elem.kind) path.elems
indexes them tokens writes small it path there among =
    All-contains IsSmallPath (paths_of it) path (All-contains IsSmallDecl (flat_map decls_of_item them) it (decls_in_items writes small) there) among
