-- Declarations whose tokens are moved are written by the moved tokens.
use Rattle.std.proofs.Common.{Bool, Option, List, map}
use Rattle.twe_base.specs.declared.place.Place.{Place}
use Rattle.twe_ast.specs.declared.item.Clause.{Clause}
use Rattle.twe_ast.specs.declared.item.Decl.{Decl}
use Rattle.twe_ast.specs.declared.item.Initial.{Initial}
use Rattle.twe_ast.specs.declared.item.Item.{Item}
use Rattle.twe_ast.specs.declared.name.Name.{Name}
use Rattle.twe_ast.specs.declared.path.Path.{Path}
use Rattle.twe_lexer.specs.declared.token.Token.{Token}
use Rattle.twe_parser.specs.Writes.{MoreNames, no_more_names, more_names, WritesInitial, not_written, initial, negative_initial, MoreParams, no_more_params, more_params, WritesParams, no_params, params, MorePaths, no_more_paths, more_paths, WritesClause, clause, MoreClauses, no_more_clauses, more_clauses, WritesEffects, pure, clauses, WritesDecl, decl, WritesItem, regions, cell, array, grid, method, task, deterministic_task, WritesItems, no_more_items, more_items}
use Rattle.moved_places.specs.MovedExpression.{moved_name}
use Rattle.moved_places.specs.MovedTree.{moved_path, moved_clause, moved_decl, moved_item}
use Rattle.layout_refusals.proofs.MovedTokens.{moved, move_path, move_cell_path}
use Rattle.layout_refusals.proofs.MovedBodies.{move_statements}

module _ (to : Place → Place) where
  move_names : {names : List Name} {tokens rest : List Token} → MoreNames names tokens rest
      → MoreNames (map (moved_name to) names) (moved to tokens) (moved to rest)
  move_names no_more_names = no_more_names
  move_names (more_names {first = first} others) = more_names {first = moved_name to first} (move_names others)

  move_initial : {start : Option Initial} {tokens rest : List Token} → WritesInitial start tokens rest → WritesInitial start (moved to tokens) (moved to rest)
  move_initial not_written = not_written
  move_initial initial = initial
  move_initial negative_initial = negative_initial

  move_more_params : {names : List Name} {tokens rest : List Token} → MoreParams names tokens rest
      → MoreParams (map (moved_name to) names) (moved to tokens) (moved to rest)
  move_more_params no_more_params = no_more_params
  move_more_params (more_params {first = first} others) = more_params {first = moved_name to first} (move_more_params others)

  move_params : {names : List Name} {tokens rest : List Token} → WritesParams names tokens rest
      → WritesParams (map (moved_name to) names) (moved to tokens) (moved to rest)
  move_params no_params = no_params
  move_params (params {first = first} others) = params {first = moved_name to first} (move_more_params others)

  move_paths : {paths : List Path} {tokens rest : List Token} → MorePaths paths tokens rest
      → MorePaths (map (moved_path to) paths) (moved to tokens) (moved to rest)
  move_paths no_more_paths = no_more_paths
  move_paths (more_paths first others) = more_paths (move_path to first) (move_paths others)

  move_clause : {its : Clause} {tokens rest : List Token} → WritesClause its tokens rest
      → WritesClause (moved_clause to its) (moved to tokens) (moved to rest)
  move_clause (clause first others) = clause (move_path to first) (move_paths others)

  move_clauses : {all : List Clause} {tokens rest : List Token} → MoreClauses all tokens rest
      → MoreClauses (map (moved_clause to) all) (moved to tokens) (moved to rest)
  move_clauses no_more_clauses = no_more_clauses
  move_clauses (more_clauses first others) = more_clauses (move_clause first) (move_clauses others)

  move_effects : {all : List Clause} {tokens rest : List Token} → WritesEffects all tokens rest
      → WritesEffects (map (moved_clause to) all) (moved to tokens) (moved to rest)
  move_effects pure = pure
  move_effects (clauses first others) = clauses (move_clause first) (move_clauses others)

  move_decl : {in_task : Bool} {its : Decl} {tokens rest : List Token} → WritesDecl in_task its tokens rest
      → WritesDecl in_task (moved_decl to its) (moved to tokens) (moved to rest)
  move_decl (decl {name = name} parameters effects body) =
      decl {name = moved_name to name} (move_params parameters) (move_effects effects) (move_statements to body)

  move_item : {item : Item} {tokens rest : List Token} → WritesItem item tokens rest
      → WritesItem (moved_item to item) (moved to tokens) (moved to rest)
  move_item (regions {first = first} others) = regions {first = moved_name to first} (move_names others)
  move_item (cell {name = name} path value) = cell {name = moved_name to name} (move_cell_path to path) (move_initial value)
  move_item (array {name = name} path) = array {name = moved_name to name} (move_cell_path to path)
  move_item (grid {name = name} path) = grid {name = moved_name to name} (move_cell_path to path)
  move_item (method its) = method (move_decl its)
  move_item (task its) = task (move_decl its)
  move_item (deterministic_task its) = deterministic_task (move_decl its)

  pub move_items : {all : List Item} {tokens : List Token} → WritesItems all tokens → WritesItems (map (moved_item to) all) (moved to tokens)
  move_items no_more_items = no_more_items
  move_items (more_items first others) = more_items (move_item first) (move_items others)
