-- Programs whose tokens have other places.
use Rattle.std.proofs.Common.{◌≡◌, Bool, true, false, Option, List, [], ◌∷◌, map, refl}
use Rattle.twe_base.specs.declared.place.Place.{Place}
use Rattle.twe_ast.specs.declared.item.Clause.{Clause}
use Rattle.twe_ast.specs.declared.item.CellShape.TheVariants as shapes
use Rattle.twe_ast.specs.declared.item.Decl.{Decl}
use Rattle.twe_ast.specs.declared.item.Initial.{Initial}
use Rattle.twe_ast.specs.declared.item.Item.{Item}
use Rattle.twe_ast.specs.declared.item.Item.TheVariants as items
use Rattle.twe_ast.specs.declared.name.Name.{Name}
use Rattle.twe_ast.specs.declared.path.Path.{Path}
use Rattle.twe_lexer.specs.declared.token.Token.{Token}
use Rattle.twe_parser.specs.Writes.{MoreNames, no_more_names, more_names, WritesInitial, not_written, initial, negative_initial, MoreParams, no_more_params, more_params, WritesParams, no_params, params, MorePaths, no_more_paths, more_paths, WritesClause, clause, MoreClauses, no_more_clauses, more_clauses, WritesEffects, pure, clauses, WritesDecl, decl, WritesItem, regions, cell, array, grid, method, task, deterministic_task, WritesItems, no_more_items, more_items}
use Rattle.ast_printer.specs.BareExpression.{bare_name}
use Rattle.ast_printer.specs.BareItem.{bare_path, bare_clause, bare_decl, bare_item}
use Rattle.layout_laws.proofs.MovedExpressions.{moved_name, moved, move_path, move_cell_path}
use Rattle.layout_laws.proofs.MovedStatements.{move_statements}

module _ (at : List Token → Place) where
  move_names : {names : List Name} {tokens rest : List Token} → MoreNames names tokens rest
      → (other : List Name) × MoreNames other (moved at tokens) (moved at rest) × (map bare_name names ≡ map bare_name other)
  move_names no_more_names = ([], no_more_names, refl)
  move_names (more_names {first = first} others) =
      let found = move_names others in (moved_name first _ ∷ found.0, more_names found.1, λ i. bare_name first ∷ found.2 i)

  move_initial : {start : Option Initial} {tokens rest : List Token} → WritesInitial start tokens rest → WritesInitial start (moved at tokens) (moved at rest)
  move_initial not_written = not_written
  move_initial initial = initial
  move_initial negative_initial = negative_initial

  move_more_params : {names : List Name} {tokens rest : List Token} → MoreParams names tokens rest
      → (other : List Name) × MoreParams other (moved at tokens) (moved at rest) × (map bare_name names ≡ map bare_name other)
  move_more_params no_more_params = ([], no_more_params, refl)
  move_more_params (more_params {first = first} others) =
      let found = move_more_params others in (moved_name first _ ∷ found.0, more_params found.1, λ i. bare_name first ∷ found.2 i)

  move_params : {names : List Name} {tokens rest : List Token} → WritesParams names tokens rest
      → (other : List Name) × WritesParams other (moved at tokens) (moved at rest) × (map bare_name names ≡ map bare_name other)
  move_params no_params = ([], no_params, refl)
  move_params (params {first = first} others) =
      let found = move_more_params others in (moved_name first _ ∷ found.0, params found.1, λ i. bare_name first ∷ found.2 i)

  move_paths : {paths : List Path} {tokens rest : List Token} → MorePaths paths tokens rest
      → (other : List Path) × MorePaths other (moved at tokens) (moved at rest) × (map bare_path paths ≡ map bare_path other)
  move_paths no_more_paths = ([], no_more_paths, refl)
  move_paths (more_paths first others) =
      let a = move_path at first in
      let b = move_paths others in (a.0 ∷ b.0, more_paths a.1 b.1, λ i. a.2 i ∷ b.2 i)

  move_clause : {its : Clause} {tokens rest : List Token} → WritesClause its tokens rest
      → (other : Clause) × WritesClause other (moved at tokens) (moved at rest) × (bare_clause its ≡ bare_clause other)
  move_clause (clause {write = write} first others) =
      let a = move_path at first in
      let b = move_paths others in (record { write = write; paths = a.0 ∷ b.0 }, clause a.1 b.1, λ i. record { write = write; paths = a.2 i ∷ b.2 i })

  move_clauses : {all : List Clause} {tokens rest : List Token} → MoreClauses all tokens rest
      → (other : List Clause) × MoreClauses other (moved at tokens) (moved at rest) × (map bare_clause all ≡ map bare_clause other)
  move_clauses no_more_clauses = ([], no_more_clauses, refl)
  move_clauses (more_clauses first others) =
      let a = move_clause first in
      let b = move_clauses others in (a.0 ∷ b.0, more_clauses a.1 b.1, λ i. a.2 i ∷ b.2 i)

  move_effects : {all : List Clause} {tokens rest : List Token} → WritesEffects all tokens rest
      → (other : List Clause) × WritesEffects other (moved at tokens) (moved at rest) × (map bare_clause all ≡ map bare_clause other)
  move_effects pure = ([], pure, refl)
  move_effects (clauses first others) =
      let a = move_clause first in
      let b = move_clauses others in (a.0 ∷ b.0, clauses a.1 b.1, λ i. a.2 i ∷ b.2 i)

  move_decl : {in_task : Bool} {its : Decl} {tokens rest : List Token} → WritesDecl in_task its tokens rest
      → (other : Decl) × WritesDecl in_task other (moved at tokens) (moved at rest) × (bare_decl its ≡ bare_decl other)
  move_decl (decl {type = type} {name = name} parameters effects body) =
      let a = move_params parameters in
      let b = move_effects effects in
      let c = move_statements at body in (
        record { returns = type; name = moved_name name _; params = a.0; effects = b.0; body = c.0 },
        decl a.1 b.1 c.1,
        λ i. record { returns = type; name = bare_name name; params = a.2 i; effects = b.2 i; body = c.2 i },
      )

  move_item : {item : Item} {tokens rest : List Token} → WritesItem item tokens rest
      → (other : Item) × WritesItem other (moved at tokens) (moved at rest) × (bare_item item ≡ bare_item other)
  move_item (regions {first = first} others) =
      let found = move_names others in (items.Regions (moved_name first _ ∷ found.0), regions found.1, λ i. items.Regions (bare_name first ∷ found.2 i))
  move_item (cell {name = name} {start = start} path value) =
      let found = move_cell_path at path in (
        items.Cell (record { name = moved_name name _; shape = shapes.Scalar start; path = found.0 }),
        cell found.1 (move_initial value),
        λ i. items.Cell (record { name = bare_name name; shape = shapes.Scalar start; path = found.2 i }),
      )
  move_item (array {name = name} {size = size} path) =
      let found = move_cell_path at path in (
        items.Cell (record { name = moved_name name _; shape = shapes.Array size; path = found.0 }),
        array found.1,
        λ i. items.Cell (record { name = bare_name name; shape = shapes.Array size; path = found.2 i }),
      )
  move_item (grid {name = name} {rows = rows} {columns = columns} path) =
      let found = move_cell_path at path in (
        items.Cell (record { name = moved_name name _; shape = shapes.Grid rows columns; path = found.0 }),
        grid found.1,
        λ i. items.Cell (record { name = bare_name name; shape = shapes.Grid rows columns; path = found.2 i }),
      )
  move_item (method its) = let found = move_decl its in (items.Method found.0, method found.1, λ i. items.Method (found.2 i))
  move_item (task its) = let found = move_decl its in (items.Task false found.0, task found.1, λ i. items.Task false (found.2 i))
  move_item (deterministic_task its) = let found = move_decl its in (items.Task true found.0, deterministic_task found.1, λ i. items.Task true (found.2 i))

  pub move_items : {all : List Item} {tokens : List Token} → WritesItems all tokens
      → (other : List Item) × WritesItems other (moved at tokens) × (map bare_item all ≡ map bare_item other)
  move_items no_more_items = ([], no_more_items, refl)
  move_items (more_items first others) =
      let a = move_item first in
      let b = move_items others in (a.0 ∷ b.0, more_items a.1 b.1, λ i. a.2 i ∷ b.2 i)
