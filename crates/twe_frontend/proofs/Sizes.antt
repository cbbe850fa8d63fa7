-- What a tree declares and does has a token each.
use Rattle.std.proofs.Common.{ℕ, suc, ◌+◌, ◌-◌, ◌≤◌, Bool, Option, List, ◌∷◌, length, arith}
use Rattle.std.specs.List.{sum_by}
use Rattle.std.proofs.lemmas.List.Sums.{sum_by-cons}
use Rattle.twe_ast.specs.declared.item.Clause.{Clause}
use Rattle.twe_ast.specs.declared.item.Decl.{Decl}
use Rattle.twe_ast.specs.declared.item.Initial.{Initial}
use Rattle.twe_ast.specs.declared.item.Item.{Item}
use Rattle.twe_ast.specs.declared.name.Name.{Name}
use Rattle.twe_ast.specs.declared.path.CellPath.{CellPath}
use Rattle.twe_ast.specs.declared.stmt.WaitCall.{WaitCall}
use Rattle.twe_ast.specs.Expression.{Expression, Arguments}
use Rattle.twe_ast.specs.Statement.{Statement, Statements, Arms}
use Rattle.twe_lexer.specs.declared.token.Token.{Token}
use Rattle.twe_parser.specs.Writes.{MoreNames, no_more_names, more_names, WritesInitial, MoreParams, no_more_params, more_params, WritesParams, no_params, params, WritesEffects, WritesDecl, decl, WritesItem, regions, cell, array, grid, method, task, deterministic_task, WritesItems, no_more_items, more_items}
use Rattle.twe_parser.specs.WritesExpression.{WritesExpression, WritesArguments}
use Rattle.twe_parser.specs.WritesPath.{WritesCellPath}
use Rattle.twe_parser.specs.WritesStatement.{WritesWait, wait, WritesStatement, block, let_local, let_final, set, set_array, set_grid, if_arms, while, return_nothing, return_value, print, call, make, wait_for, let_wait, final_wait, WritesStatements, closed, one_more, WritesArms, if_arm, MoreArms, no_more_arms, else_block, else_if}
use Rattle.name_check.specs.Size.{statements_in, statements_in_all, statements_in_arms, size_of_decl, size_of_item}
use Rattle.twe_frontend.proofs.Tails.{after-expression, after-arguments, after-effects, after-cell_path, after-initial}

-- no more tokens than before
abbrev NoLonger : List Token → List Token → Type 0
NoLonger tokens ts = length ts ≤ length tokens

one_less : (tokens : List Token) (t : Token) (ts : List Token) → NoLonger tokens (t ∷ ts) → NoLonger tokens ts
one_less tokens t ts h = omega arith

by_expression : {level : ℕ} {e : Expression} {tokens rest : List Token} → WritesExpression level e tokens rest → length rest ≤ length tokens
by_expression {tokens = tokens} writes = after-expression (NoLonger tokens) (one_less tokens) writes (omega arith)

by_arguments : {args : Arguments} {tokens rest : List Token} → WritesArguments args tokens rest → length rest ≤ length tokens
by_arguments {tokens = tokens} writes = after-arguments (NoLonger tokens) (one_less tokens) writes (omega arith)

by_effects : {effects : List Clause} {tokens rest : List Token} → WritesEffects effects tokens rest → length rest ≤ length tokens
by_effects {tokens = tokens} writes = after-effects (NoLonger tokens) (one_less tokens) writes (omega arith)

by_cell_path : {path : CellPath} {tokens rest : List Token} → WritesCellPath path tokens rest → length rest ≤ length tokens
by_cell_path {tokens = tokens} writes = after-cell_path (NoLonger tokens) (one_less tokens) writes (omega arith)

by_wait : {it : WaitCall} {tokens rest : List Token} → WritesWait it tokens rest → suc (length rest) ≤ length tokens
by_wait wait = omega arith

mutual
  by_statement : {in_task : Bool} {s : Statement} {tokens rest : List Token} → WritesStatement in_task s tokens rest → statements_in s + length rest ≤ length tokens
  by_statement (block body) = let inside = by_statements body in omega arith
  by_statement (let_local value) = let last = by_expression value in omega arith
  by_statement (let_final value) = let last = by_expression value in omega arith
  by_statement (set value) = let last = by_expression value in omega arith
  by_statement (set_array at value) = let first = by_expression at in let last = by_expression value in omega arith
  by_statement (set_grid row column value) = let first = by_expression row in let second = by_expression column in let last = by_expression value in omega arith
  by_statement (if_arms arms) = let inside = by_arms arms in omega arith
  by_statement (while condition body) = let first = by_expression condition in let inside = by_statements body in omega arith
  by_statement return_nothing = omega arith
  by_statement (return_value value) = let last = by_expression value in omega arith
  by_statement (print value) = let last = by_expression value in omega arith
  by_statement (call args) = let last = by_arguments args in omega arith
  by_statement (make args) = let last = by_arguments args in omega arith
  by_statement (wait_for it) = let last = by_wait it in omega arith
  by_statement (let_wait it) = let last = by_wait it in omega arith
  by_statement (final_wait it) = let last = by_wait it in omega arith

  by_statements : {in_task : Bool} {body : Statements} {tokens rest : List Token} → WritesStatements in_task body tokens rest → statements_in_all body + length rest ≤ length tokens
  by_statements closed = omega arith
  by_statements (one_more first others) = let one = by_statement first in let more = by_statements others in omega arith

  by_arms : {in_task : Bool} {arms : Arms} {tokens rest : List Token} → WritesArms in_task arms tokens rest → suc (statements_in_arms arms + length rest) ≤ length tokens
  by_arms (if_arm condition body next) = let first = by_expression condition in let inside = by_statements body in let more = by_more_arms next in omega arith

  by_more_arms : {in_task : Bool} {arms : Arms} {tokens rest : List Token} → MoreArms in_task arms tokens rest → statements_in_arms arms + length rest ≤ length tokens
  by_more_arms no_more_arms = omega arith
  by_more_arms (else_block body) = let inside = by_statements body in omega arith
  by_more_arms (else_if arms) = let inside = by_arms arms in omega arith

by_more_names : {names : List Name} {tokens rest : List Token} → MoreNames names tokens rest → length names + length rest ≤ length tokens
by_more_names no_more_names = omega arith
by_more_names (more_names others) = let more = by_more_names others in omega arith

by_more_params : {names : List Name} {tokens rest : List Token} → MoreParams names tokens rest → length names + length rest ≤ length tokens
by_more_params no_more_params = omega arith
by_more_params (more_params others) = let more = by_more_params others in omega arith

by_params : {names : List Name} {tokens rest : List Token} → WritesParams names tokens rest → length names + length rest ≤ length tokens
by_params no_params = omega arith
by_params (params others) = let more = by_more_params others in omega arith

by_decl : {in_task : Bool} {it : Decl} {tokens rest : List Token} → WritesDecl in_task it tokens rest → suc (size_of_decl it + length rest) ≤ length tokens
by_decl (decl names effects body) = let first = by_params names in let second = by_effects effects in let inside = by_statements body in omega arith

by_initial : {start : Option Initial} {tokens rest : List Token} → WritesInitial start tokens rest → length rest ≤ length tokens
by_initial {tokens = tokens} writes = after-initial (NoLonger tokens) (one_less tokens) writes (omega arith)

by_item : {it : Item} {tokens rest : List Token} → WritesItem it tokens rest → suc (size_of_item it + length rest) ≤ length tokens
by_item (regions others) = let more = by_more_names others in omega arith
by_item (cell path start) = let first = by_cell_path path in let second = by_initial start in omega arith
by_item (array path) = let first = by_cell_path path in omega arith
by_item (grid path) = let first = by_cell_path path in omega arith
by_item (method it) = let inside = by_decl it in omega arith
by_item (task it) = let inside = by_decl it in omega arith
by_item (deterministic_task it) = let inside = by_decl it in omega arith

-- all together, and one token more if there is any item
pub by_items : {them : List Item} {tokens : List Token} → WritesItems them tokens → sum_by size_of_item them ≤ length tokens - 1
by_items no_more_items = omega arith
by_items (more_items {first = first} {others = others} one more) =
    let this = by_item one in
    let rest = by_items more in
    let both = sum_by-cons size_of_item first others in
    omega arith
