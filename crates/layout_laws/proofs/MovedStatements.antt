-- Statements whose tokens have other places.
use Rattle.std.proofs.Common.{◌≡◌, Bool, true, false, List, None, Some, refl}
use Rattle.twe_base.specs.declared.place.Place.{Place}
use Rattle.twe_ast.specs.declared.stmt.WaitCall.{WaitCall}
use Rattle.twe_ast.specs.Statement.{Statement, Block, Let, Set, SetArray, SetGrid, If, While, Return, Print, Call, Make, Wait, LetWait, Statements, end_of_block, statement, Arms, arm, otherwise, no_else}
use Rattle.twe_lexer.specs.declared.token.Token.{Token}
use Rattle.twe_parser.specs.WritesStatement.{WritesWait, wait, WritesStatement, block, let_local, let_final, set, set_array, set_grid, if_arms, while, return_nothing, return_value, print, call, make, wait_for, let_wait, final_wait, WritesStatements, closed, one_more, WritesArms, if_arm, MoreArms, no_more_arms, else_block, else_if}
use Rattle.ast_printer.specs.BareExpression.{nowhere, bare_name}
use Rattle.ast_printer.specs.BareStatement.{bare_statement, bare_block, bare_arms, bare_wait}
use Rattle.layout_laws.proofs.MovedExpressions.{moved_name, moved, move_expression, move_arguments}

as_if : {in_task : Bool} {arms : Arms} {tokens rest : List Token} → WritesArms in_task arms tokens rest → WritesStatement in_task (If arms) tokens rest
as_if (if_arm condition body next) = if_arms (if_arm condition body next)

module _ (at : List Token → Place) where
  move_wait : {call : WaitCall} {tokens rest : List Token} → WritesWait call tokens rest
      → (other : WaitCall) × WritesWait other (moved at tokens) (moved at rest) × (bare_wait call ≡ bare_wait other)
  move_wait (wait {join = join} {future = future}) = (record { future = moved_name future _; join = join }, wait, refl)

  mutual
    pub move_statement : {in_task : Bool} {s : Statement} {tokens rest : List Token} → WritesStatement in_task s tokens rest
        → (other : Statement) × WritesStatement in_task other (moved at tokens) (moved at rest) × (bare_statement s ≡ bare_statement other)
    move_statement (block body) = let found = move_statements body in (Block found.0, block found.1, λ i. Block (found.2 i))
    move_statement (let_local {local_type = type} {name = name} value) =
        let found = move_expression at value in (Let false type (moved_name name _) found.0, let_local found.1, λ i. Let false type (bare_name name) (found.2 i))
    move_statement (let_final {local_type = type} {name = name} value) =
        let found = move_expression at value in (Let true type (moved_name name _) found.0, let_final found.1, λ i. Let true type (bare_name name) (found.2 i))
    move_statement (set {name = name} value) =
        let found = move_expression at value in (Set (moved_name name _) found.0, set found.1, λ i. Set (bare_name name) (found.2 i))
    move_statement (set_array {name = name} index value) =
        let a = move_expression at index in
        let b = move_expression at value in (SetArray (moved_name name _) a.0 b.0, set_array a.1 b.1, λ i. SetArray (bare_name name) (a.2 i) (b.2 i))
    move_statement (set_grid {name = name} row column value) =
        let a = move_expression at row in
        let b = move_expression at column in
        let c = move_expression at value in (SetGrid (moved_name name _) a.0 b.0 c.0, set_grid a.1 b.1 c.1, λ i. SetGrid (bare_name name) (a.2 i) (b.2 i) (c.2 i))
    move_statement (if_arms arms) = let found = move_arms arms in (If found.0, as_if found.1, λ i. If (found.2 i))
    move_statement (while condition body) =
        let a = move_expression at condition in
        let b = move_statements body in (While _ a.0 b.0, while a.1 b.1, λ i. While nowhere (a.2 i) (b.2 i))
    move_statement return_nothing = (Return _ None, return_nothing, refl)
    move_statement (return_value value) = let found = move_expression at value in (Return _ (Some found.0), return_value found.1, λ i. Return nowhere (Some (found.2 i)))
    move_statement (print value) = let found = move_expression at value in (Print _ found.0, print found.1, λ i. Print nowhere (found.2 i))
    move_statement (call {name = name} args) =
        let found = move_arguments at args in (Call (moved_name name _) found.0, call found.1, λ i. Call (bare_name name) (found.2 i))
    move_statement (make {spawned = spawned} {future = future} {task = task} args) =
        let found = move_arguments at args in
        (Make (moved_name future _) (moved_name task _) spawned found.0, make found.1, λ i. Make (bare_name future) (bare_name task) spawned (found.2 i))
    move_statement (wait_for waits) = let found = move_wait waits in (Wait found.0, wait_for found.1, λ i. Wait (found.2 i))
    move_statement (let_wait {name = name} waits) =
        let found = move_wait waits in (LetWait false (moved_name name _) found.0, let_wait found.1, λ i. LetWait false (bare_name name) (found.2 i))
    move_statement (final_wait {name = name} waits) =
        let found = move_wait waits in (LetWait true (moved_name name _) found.0, final_wait found.1, λ i. LetWait true (bare_name name) (found.2 i))

    pub move_statements : {in_task : Bool} {body : Statements} {tokens rest : List Token} → WritesStatements in_task body tokens rest
        → (other : Statements) × WritesStatements in_task other (moved at tokens) (moved at rest) × (bare_block body ≡ bare_block other)
    move_statements closed = (end_of_block _, closed, refl)
    move_statements (one_more first others) =
        let a = move_statement first in
        let b = move_statements others in (statement a.0 b.0, one_more a.1 b.1, λ i. statement (a.2 i) (b.2 i))

    move_arms : {in_task : Bool} {arms : Arms} {tokens rest : List Token} → WritesArms in_task arms tokens rest
        → (other : Arms) × WritesArms in_task other (moved at tokens) (moved at rest) × (bare_arms arms ≡ bare_arms other)
    move_arms (if_arm condition body next) =
        let a = move_expression at condition in
        let b = move_statements body in
        let c = move_more_arms next in (arm a.0 b.0 c.0, if_arm a.1 b.1 c.1, λ i. arm (a.2 i) (b.2 i) (c.2 i))

    move_more_arms : {in_task : Bool} {arms : Arms} {tokens rest : List Token} → MoreArms in_task arms tokens rest
        → (other : Arms) × MoreArms in_task other (moved at tokens) (moved at rest) × (bare_arms arms ≡ bare_arms other)
    move_more_arms no_more_arms = (no_else, no_more_arms, refl)
    move_more_arms (else_block body) = let found = move_statements body in (otherwise found.0, else_block found.1, λ i. otherwise (found.2 i))
    move_more_arms (else_if arms) = let found = move_arms arms in (found.0, else_if found.1, found.2)
