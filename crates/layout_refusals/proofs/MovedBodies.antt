-- Statements whose tokens are moved are written by the moved tokens.
use Rattle.std.proofs.Common.{Bool, List}
use Rattle.twe_base.specs.declared.place.Place.{Place}
use Rattle.twe_ast.specs.declared.stmt.WaitCall.{WaitCall}
use Rattle.twe_ast.specs.Statement.{Statement, If, Statements, Arms}
use Rattle.twe_lexer.specs.declared.token.Token.{Token}
use Rattle.twe_parser.specs.WritesStatement.{WritesWait, wait, WritesStatement, block, let_local, let_final, set, set_array, set_grid, if_arms, while, return_nothing, return_value, print, call, make, wait_for, let_wait, final_wait, WritesStatements, closed, one_more, WritesArms, if_arm, MoreArms, no_more_arms, else_block, else_if}
use Rattle.moved_places.specs.MovedExpression.{moved_name}
use Rattle.moved_places.specs.MovedStatement.{moved_wait, moved_statement, moved_block, moved_arms}
use Rattle.layout_refusals.proofs.MovedTokens.{moved, move_expression, move_arguments}

as_if : {in_task : Bool} {arms : Arms} {tokens rest : List Token} → WritesArms in_task arms tokens rest → WritesStatement in_task (If arms) tokens rest
as_if (if_arm condition body next) = if_arms (if_arm condition body next)

module _ (to : Place → Place) where
  move_wait : {call : WaitCall} {tokens rest : List Token} → WritesWait call tokens rest
      → WritesWait (moved_wait to call) (moved to tokens) (moved to rest)
  move_wait (wait {future = future}) = wait {future = moved_name to future}

  mutual
    pub move_statement : {in_task : Bool} {s : Statement} {tokens rest : List Token} → WritesStatement in_task s tokens rest
        → WritesStatement in_task (moved_statement to s) (moved to tokens) (moved to rest)
    move_statement (block body) = block (move_statements body)
    move_statement (let_local {name = name} value) = let_local {name = moved_name to name} (move_expression to value)
    move_statement (let_final {name = name} value) = let_final {name = moved_name to name} (move_expression to value)
    move_statement (set {name = name} value) = set {name = moved_name to name} (move_expression to value)
    move_statement (set_array {name = name} index value) = set_array {name = moved_name to name} (move_expression to index) (move_expression to value)
    move_statement (set_grid {name = name} row column value) =
        set_grid {name = moved_name to name} (move_expression to row) (move_expression to column) (move_expression to value)
    move_statement (if_arms arms) = as_if (move_arms arms)
    move_statement (while condition body) = while (move_expression to condition) (move_statements body)
    move_statement return_nothing = return_nothing
    move_statement (return_value value) = return_value (move_expression to value)
    move_statement (print value) = print (move_expression to value)
    move_statement (call {name = name} args) = call {name = moved_name to name} (move_arguments to args)
    move_statement (make {future = future} {task = task} args) = make {future = moved_name to future} {task = moved_name to task} (move_arguments to args)
    move_statement (wait_for waits) = wait_for (move_wait waits)
    move_statement (let_wait {name = name} waits) = let_wait {name = moved_name to name} (move_wait waits)
    move_statement (final_wait {name = name} waits) = final_wait {name = moved_name to name} (move_wait waits)

    pub move_statements : {in_task : Bool} {body : Statements} {tokens rest : List Token} → WritesStatements in_task body tokens rest
        → WritesStatements in_task (moved_block to body) (moved to tokens) (moved to rest)
    move_statements closed = closed
    move_statements (one_more first others) = one_more (move_statement first) (move_statements others)

    move_arms : {in_task : Bool} {arms : Arms} {tokens rest : List Token} → WritesArms in_task arms tokens rest
        → WritesArms in_task (moved_arms to arms) (moved to tokens) (moved to rest)
    move_arms (if_arm condition body next) = if_arm (move_expression to condition) (move_statements body) (move_more_arms next)

    move_more_arms : {in_task : Bool} {arms : Arms} {tokens rest : List Token} → MoreArms in_task arms tokens rest
        → MoreArms in_task (moved_arms to arms) (moved to tokens) (moved to rest)
    move_more_arms no_more_arms = no_more_arms
    move_more_arms (else_block body) = else_block (move_statements body)
    move_more_arms (else_if arms) = else_if (move_arms arms)
