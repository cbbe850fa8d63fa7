-- Completeness: the machine takes the tokens of every program.
use Rattle.std.proofs.Common.{◌≡◌, Bool, true, false, List, [], ◌∷◌, ◌++◌, Option, Some, refl, sym, ap, ◌∙◌, append_assoc, append-nil}
use Rattle.twe_base.specs.declared.place.Place.{Place}
use Rattle.twe_ast.specs.declared.item.CellShape.TheVariants as shapes
use Rattle.twe_ast.specs.declared.item.Clause.{Clause}
use Rattle.twe_ast.specs.declared.item.Initial.{Initial}
use Rattle.twe_ast.specs.declared.item.Item.{Item as Declaration}
use Rattle.twe_ast.specs.declared.item.Item.TheVariants as items
use Rattle.twe_ast.specs.declared.item.ReturnType.{ReturnType}
use Rattle.twe_ast.specs.declared.item.ReturnType.TheVariants as returns
use Rattle.twe_ast.specs.declared.name.Name.{Name}
use Rattle.twe_ast.specs.declared.path.CellPath.{CellPath}
use Rattle.twe_ast.specs.Statement.{Statements}
use Rattle.twe_lexer.specs.declared.fixed.Fixed.TheVariants as fixed
use Rattle.twe_lexer.specs.declared.token.Token.{Token}
use Rattle.twe_parser.specs.declared.symbol.Action.TheVariants.{Item, Stmt}
use Rattle.twe_parser.specs.declared.symbol.CellKind.TheVariants as cells
use Rattle.twe_parser.specs.declared.symbol.ItemAction.TheVariants as actions
use Rattle.twe_parser.specs.declared.symbol.Nonterminal.TheVariants as nonterminals
use Rattle.twe_parser.specs.declared.symbol.StmtAction.TheVariants as stmts
use Rattle.twe_parser.specs.declared.symbol.Symbol.{Symbol}
use Rattle.twe_parser.specs.declared.symbol.Symbol.TheVariants.{Expand, Perform}
use Rattle.twe_parser.specs.declared.value_stacks.ValueStacks.{ValueStacks}
use Rattle.twe_parser.specs.Written.{word, named, number}
use Rattle.twe_parser.specs.Writes.{MoreNames, no_more_names, more_names, WritesInitial, not_written, initial, negative_initial, MoreParams, no_more_params, more_params, WritesParams, no_params, params, WritesEffects, decl, WritesItem, regions, cell, array, grid, method, task, deterministic_task, WritesItems, no_more_items, more_items}
use Rattle.twe_parser.specs.WritesStatement.{WritesStatements}
use Rattle.twe_parser.specs.inner.Machine.{result_from}
use Rattle.twe_base.specs.Stacks.{below}
use Rattle.twe_parser.specs.inner.ValueStacks.{kept, no_values}
use Rattle.twe_parser.proofs.CompletePaths.{cell_path_taken, effects_taken}
use Rattle.twe_parser.proofs.CompleteStatements.{statements_taken}
use Rattle.twe_parser.proofs.Steps.{do_now}

-- the only values are these declarations
abbrev pub only_items : List Declaration → ValueStacks
only_items done = record no_values { items = done }

abbrev with_listed : List Name → ValueStacks → ValueStacks
with_listed names values = record values { listed = names }

more_names_taken : {names : List Name} {tokens rest : List Token} → MoreNames names tokens rest → (done : List Name) (stack : List Symbol) (values : ValueStacks)
    → result_from tokens (Expand nonterminals.MoreRegions ∷ stack) (with_listed done values) ≡ result_from rest (Expand nonterminals.MoreRegions ∷ stack) (with_listed (done ++ names) values)
more_names_taken {rest = rest} no_more_names done stack values = ap (λ all. result_from rest (Expand nonterminals.MoreRegions ∷ stack) (with_listed all values)) (sym (append-nil done))
more_names_taken {rest = rest} (more_names {first = first} {others = others} {tokens = tokens} more) done stack values =
    do_now (Item actions.KeepName) tokens (Expand nonterminals.MoreRegions ∷ stack) _
    ∙ more_names_taken more (done ++ first ∷ []) stack values
    ∙ ap (λ all. result_from rest (Expand nonterminals.MoreRegions ∷ stack) (with_listed all values)) (append_assoc done (first ∷ []) others)

more_params_taken : {names : List Name} {tokens rest : List Token} → MoreParams names tokens rest → (done : List Name) (stack : List Symbol) (values : ValueStacks)
    → result_from tokens (Expand nonterminals.MoreParams ∷ stack) (with_listed done values) ≡ result_from rest (Expand nonterminals.MoreParams ∷ stack) (with_listed (done ++ names) values)
more_params_taken {rest = rest} no_more_params done stack values = ap (λ all. result_from rest (Expand nonterminals.MoreParams ∷ stack) (with_listed all values)) (sym (append-nil done))
more_params_taken {rest = rest} (more_params {first = first} {others = others} {tokens = tokens} more) done stack values =
    do_now (Item actions.KeepName) tokens (Expand nonterminals.MoreParams ∷ stack) _
    ∙ more_params_taken more (done ++ first ∷ []) stack values
    ∙ ap (λ all. result_from rest (Expand nonterminals.MoreParams ∷ stack) (with_listed all values)) (append_assoc done (first ∷ []) others)

-- the parameters, from after the `(`
params_taken : {names : List Name} {tokens rest : List Token} → WritesParams names tokens rest → (stack : List Symbol) (values : ValueStacks)
    → result_from (below tokens) (Expand nonterminals.Params ∷ stack) (with_listed [] values) ≡ result_from rest stack (with_listed names values)
params_taken no_params stack values = refl
params_taken (params {first = first} {tokens = tokens} more) stack values =
    do_now (Item actions.KeepName) tokens (Expand nonterminals.MoreParams ∷ stack) _
    ∙ more_params_taken more (first ∷ []) stack values

-- the rest of a method or a task, from after the `(` of its parameters
rest_taken : (in_task : Bool) {names : List Name} {effects : List Clause} {body : Statements} {tokens more others rest : List Token} {brace : Place}
    → WritesParams names tokens more → WritesEffects effects more (word fixed.OpenBrace brace ∷ others) → WritesStatements in_task body others rest → (name : Name) (done : List Declaration) (stack : List Symbol)
    → result_from (below tokens) (Expand nonterminals.Params ∷ Expand (nonterminals.Effects in_task) ∷ stack) (kept (named name) false (only_items done))
    ≡ result_from rest stack (record (only_items done) { names = name ∷ []; listed = names; clauses = effects; blocks = body ∷ [] })
rest_taken in_task {names = names} {effects = effects} {others = others} written_params effects_written body name done stack =
    params_taken written_params (Expand (nonterminals.Effects in_task) ∷ stack) (kept (named name) false (only_items done))
    ∙ effects_taken in_task effects_written stack (with_listed names (kept (named name) false (only_items done)))
    ∙ do_now (Stmt stmts.NewBlock) others (Expand (nonterminals.Statements in_task) ∷ stack) _
    ∙ statements_taken body [] [] stack (record (kept (named name) false (only_items done)) { listed = names; clauses = effects })

initial_taken : {start : Option Initial} {tokens rest : List Token} {end : Place} → WritesInitial start tokens (word fixed.Semicolon end ∷ rest) → (name : Name) (path : CellPath) (done : List Declaration) (stack : List Symbol)
    → result_from tokens (Expand (nonterminals.CellRest cells.Scalar) ∷ stack) (record (only_items done) { names = name ∷ []; cell_elems = path.elems; places = path.place ∷ [] })
    ≡ result_from rest stack (only_items (done ++ items.Cell (record { name = name; shape = shapes.Scalar start; path = path }) ∷ []))
initial_taken {rest = rest} not_written name path done stack = do_now (Item (actions.Cell cells.Scalar)) rest stack _
initial_taken {rest = rest} initial name path done stack = do_now (Item (actions.CellInitial false)) rest stack _
initial_taken {rest = rest} negative_initial name path done stack = do_now (Item (actions.CellInitial true)) rest stack _

-- a method, from after the `(` of its parameters
method_taken : (type : ReturnType) {names : List Name} {effects : List Clause} {body : Statements} {tokens more others rest : List Token} {brace : Place}
    → WritesParams names tokens more → WritesEffects effects more (word fixed.OpenBrace brace ∷ others) → WritesStatements false body others rest → (name : Name) (done : List Declaration) (stack : List Symbol)
    → result_from (below tokens) (Expand nonterminals.Params ∷ Expand (nonterminals.Effects false) ∷ Perform (Item (actions.Method type)) ∷ Expand nonterminals.Items ∷ stack) (kept (named name) false (only_items done))
    ≡ result_from rest (Expand nonterminals.Items ∷ stack) (only_items (done ++ items.Method (record { returns = type; name = name; params = names; effects = effects; body = body }) ∷ []))
method_taken type {rest = rest} written_params effects body name done stack =
    rest_taken false written_params effects body name done (Perform (Item (actions.Method type)) ∷ Expand nonterminals.Items ∷ stack)
    ∙ do_now (Item (actions.Method type)) rest (Expand nonterminals.Items ∷ stack) _

-- a task, from after the `(` of its parameters
task_taken : (deterministic : Bool) (type : ReturnType) {names : List Name} {effects : List Clause} {body : Statements} {tokens more others rest : List Token} {brace : Place}
    → WritesParams names tokens more → WritesEffects effects more (word fixed.OpenBrace brace ∷ others) → WritesStatements true body others rest → (name : Name) (done : List Declaration) (stack : List Symbol)
    → result_from (below tokens) (Expand nonterminals.Params ∷ Expand (nonterminals.Effects true) ∷ Perform (Item (actions.Task deterministic type)) ∷ Expand nonterminals.Items ∷ stack) (kept (named name) false (only_items done))
    ≡ result_from rest (Expand nonterminals.Items ∷ stack) (only_items (done ++ items.Task deterministic (record { returns = type; name = name; params = names; effects = effects; body = body }) ∷ []))
task_taken deterministic type {rest = rest} written_params effects body name done stack =
    rest_taken true written_params effects body name done (Perform (Item (actions.Task deterministic type)) ∷ Expand nonterminals.Items ∷ stack)
    ∙ do_now (Item (actions.Task deterministic type)) rest (Expand nonterminals.Items ∷ stack) _

item_taken : {item : Declaration} {tokens rest : List Token} → WritesItem item tokens rest → (done : List Declaration) (stack : List Symbol)
    → result_from tokens (Expand nonterminals.Items ∷ stack) (only_items done) ≡ result_from rest (Expand nonterminals.Items ∷ stack) (only_items (done ++ item ∷ []))
item_taken {rest = rest} (regions {first = first} {others = others} {tokens = tokens} more) done stack =
    do_now (Item actions.KeepName) tokens (Expand nonterminals.MoreRegions ∷ Expand nonterminals.Items ∷ stack) _
    ∙ more_names_taken more (first ∷ []) (Expand nonterminals.Items ∷ stack) (only_items done)
    ∙ do_now (Item actions.Regions) rest (Expand nonterminals.Items ∷ stack) _
item_taken (cell {name = name} {path = path} written_path start) done stack =
    cell_path_taken cells.Scalar written_path (Expand nonterminals.Items ∷ stack) (kept (named name) false (only_items done))
    ∙ initial_taken start name path done (Expand nonterminals.Items ∷ stack)
item_taken {rest = rest} (array {name = name} {size = size} {inside = inside} written_path) done stack =
    cell_path_taken cells.Array written_path (Expand nonterminals.Items ∷ stack) (kept (number size inside) false (kept (named name) false (only_items done)))
    ∙ do_now (Item (actions.Cell cells.Array)) rest (Expand nonterminals.Items ∷ stack) _
item_taken {rest = rest} (grid {name = name} {rows = rows} {columns = columns} {inside = inside} {within = within} written_path) done stack =
    cell_path_taken cells.Grid written_path (Expand nonterminals.Items ∷ stack) (kept (number columns within) false (kept (number rows inside) false (kept (named name) false (only_items done))))
    ∙ do_now (Item (actions.Cell cells.Grid)) rest (Expand nonterminals.Items ∷ stack) _
item_taken (method (decl {type = returns.Int} {name = name} (no_params {opening = opening} {close = close}) effects body)) done stack = method_taken returns.Int (no_params {opening = opening} {close = close}) effects body name done stack
item_taken (method (decl {type = returns.Int} {name = name} (params {opening = opening} {type = each} {close = close} more) effects body)) done stack = method_taken returns.Int (params {opening = opening} {type = each} {close = close} more) effects body name done stack
item_taken (method (decl {type = returns.Void} {name = name} (no_params {opening = opening} {close = close}) effects body)) done stack = method_taken returns.Void (no_params {opening = opening} {close = close}) effects body name done stack
item_taken (method (decl {type = returns.Void} {name = name} (params {opening = opening} {type = each} {close = close} more) effects body)) done stack = method_taken returns.Void (params {opening = opening} {type = each} {close = close} more) effects body name done stack
item_taken (task (decl {type = returns.Int} {name = name} (no_params {opening = opening} {close = close}) effects body)) done stack = task_taken false returns.Int (no_params {opening = opening} {close = close}) effects body name done stack
item_taken (task (decl {type = returns.Int} {name = name} (params {opening = opening} {type = each} {close = close} more) effects body)) done stack = task_taken false returns.Int (params {opening = opening} {type = each} {close = close} more) effects body name done stack
item_taken (task (decl {type = returns.Void} {name = name} (no_params {opening = opening} {close = close}) effects body)) done stack = task_taken false returns.Void (no_params {opening = opening} {close = close}) effects body name done stack
item_taken (task (decl {type = returns.Void} {name = name} (params {opening = opening} {type = each} {close = close} more) effects body)) done stack = task_taken false returns.Void (params {opening = opening} {type = each} {close = close} more) effects body name done stack
item_taken (deterministic_task (decl {type = returns.Int} {name = name} (no_params {opening = opening} {close = close}) effects body)) done stack = task_taken true returns.Int (no_params {opening = opening} {close = close}) effects body name done stack
item_taken (deterministic_task (decl {type = returns.Int} {name = name} (params {opening = opening} {type = each} {close = close} more) effects body)) done stack = task_taken true returns.Int (params {opening = opening} {type = each} {close = close} more) effects body name done stack
item_taken (deterministic_task (decl {type = returns.Void} {name = name} (no_params {opening = opening} {close = close}) effects body)) done stack = task_taken true returns.Void (no_params {opening = opening} {close = close}) effects body name done stack
item_taken (deterministic_task (decl {type = returns.Void} {name = name} (params {opening = opening} {type = each} {close = close} more) effects body)) done stack = task_taken true returns.Void (params {opening = opening} {type = each} {close = close} more) effects body name done stack

-- all declarations, to the end of the text
pub items_taken : {all : List Declaration} {tokens : List Token} → WritesItems all tokens → (done : List Declaration) → result_from tokens (Expand nonterminals.Items ∷ []) (only_items done) ≡ Some (only_items (done ++ all))
items_taken no_more_items done = ap (λ all. Some (only_items all)) (sym (append-nil done))
items_taken (more_items {first = first} {others = others} one more) done =
    item_taken one done []
    ∙ items_taken more (done ++ first ∷ [])
    ∙ ap (λ all. Some (only_items all)) (append_assoc done (first ∷ []) others)
