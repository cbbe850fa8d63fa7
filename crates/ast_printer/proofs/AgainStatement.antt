-- The words of statements are tokens that write them again.
use Rattle.std.proofs.Common.{Bool, true, false, List, ◌∷◌, ◌++◌, append_assoc}
use Rattle.twe_base.specs.declared.place.Place.{Place}
use Rattle.twe_ast.specs.declared.stmt.WaitCall.{WaitCall}
use Rattle.twe_ast.specs.Statement.{Statement, Statements, Arms}
use Rattle.twe_lexer.specs.declared.fixed.Fixed.TheVariants as fixed
use Rattle.twe_lexer.specs.declared.token.Token.{Token}
use Rattle.twe_lexer.specs.declared.token.TokenKind.{TokenKind}
use Rattle.twe_lexer.specs.declared.token.TokenKind.TheVariants as kinds
use Rattle.twe_parser.specs.WritesStatement.{WritesWait, wait, WritesStatement, block, let_local, let_final, set, set_array, set_grid, if_arms, while, return_nothing, return_value, print, call, make, wait_for, let_wait, final_wait, WritesStatements, closed, one_more, WritesArms, if_arm, MoreArms, no_more_arms, else_block, else_if}
use Rattle.ast_printer.specs.StatementTokens.{wait_tokens, statement_tokens, block_tokens, arms_tokens}
use Rattle.ast_printer.proofs.Supply.{next, tokens_at, after, after_append, placed_name}
use Rattle.ast_printer.proofs.AgainExpression.{expression_again, arguments_again}
use Rattle.ast_printer.proofs.PlacedStatement.{second, third, past, placed_wait, placed_statement, placed_block, placed_arms}

wait_again : {call : WaitCall} {tokens rest : List Token} → WritesWait call tokens rest → (s : List Place) (more : List TokenKind)
    → WritesWait (placed_wait call s) (tokens_at s (wait_tokens call ++ more)) (tokens_at (after (wait_tokens call) s) more)
wait_again (wait {future = f}) s more = wait {future = placed_name f s}

-- a further arm stands behind `else`
behind_else : {in_task : Bool} {arms : Arms} {tokens rest : List Token} → WritesArms in_task arms tokens rest → (s : List Place) (more : List TokenKind)
    → WritesArms in_task (placed_arms false arms (next s)) (tokens_at (next s) (arms_tokens false arms ++ more)) (tokens_at (after (arms_tokens false arms) (next s)) more)
    → MoreArms in_task (placed_arms true arms s) (tokens_at s (arms_tokens true arms ++ more)) (tokens_at (after (arms_tokens true arms) s) more)
behind_else (if_arm condition body others) s more again = else_if again

mutual
  pub statement_again : {in_task : Bool} {st : Statement} {tokens rest : List Token} → WritesStatement in_task st tokens rest → (s : List Place) (more : List TokenKind)
      → WritesStatement in_task (placed_statement st s) (tokens_at s (statement_tokens st ++ more)) (tokens_at (after (statement_tokens st) s) more)
  statement_again (block body) s more = block (block_again body (next s) more)
  statement_again (let_local {name = n} value) s more =
      simp (append_assoc, after_append) (let_local {name = placed_name n (next s)} (expression_again value 0 (third s) (kinds.Fixed fixed.Semicolon ∷ more)))
  statement_again (let_final {name = n} value) s more =
      simp (append_assoc, after_append) (let_final {name = placed_name n (second s)} (expression_again value 0 (third (next s)) (kinds.Fixed fixed.Semicolon ∷ more)))
  statement_again (set {name = n} value) s more =
      simp (append_assoc, after_append) (set {name = placed_name n s} (expression_again value 0 (second s) (kinds.Fixed fixed.Semicolon ∷ more)))
  statement_again (set_array {name = n} {index = i} index value) s more =
      simp (append_assoc, after_append)
      (set_array {name = placed_name n s} (expression_again index 0 (second s) _) (expression_again value 0 (past i (second s)) (kinds.Fixed fixed.Semicolon ∷ more)))
  statement_again (set_grid {name = n} {row = r} {column = c} row column value) s more =
      simp (append_assoc, after_append)
      (set_grid {name = placed_name n s} (expression_again row 0 (second s) _) (expression_again column 0 (past r (second s)) _)
      (expression_again value 0 (past c (past r (second s))) (kinds.Fixed fixed.Semicolon ∷ more)))
  statement_again (if_arms arms) s more = if_arms (arms_again arms s more)
  statement_again (while {condition = c} condition body) s more =
      simp (append_assoc, after_append) (while (expression_again condition 0 (second s) _) (block_again body (past c (second s)) more))
  statement_again return_nothing s more = return_nothing
  statement_again (return_value value) s more = simp (append_assoc, after_append) (return_value (expression_again value 0 (next s) (kinds.Fixed fixed.Semicolon ∷ more)))
  statement_again (print value) s more =
      simp (append_assoc, after_append) (print (expression_again value 0 (second s) (kinds.Fixed fixed.CloseParen ∷ kinds.Fixed fixed.Semicolon ∷ more)))
  statement_again (call {name = n} args) s more =
      simp (append_assoc, after_append) (call {name = placed_name n s} (arguments_again args (second s) (kinds.Fixed fixed.Semicolon ∷ more)))
  statement_again (make {future = f} {task = t} args) s more =
      simp (append_assoc, after_append)
      (make {future = placed_name f (next s)} {task = placed_name t (third s)} (arguments_again args (next (third (third s))) (kinds.Fixed fixed.Semicolon ∷ more)))
  statement_again (wait_for waits) s more = wait_for (wait_again waits s more)
  statement_again (let_wait {name = n} waits) s more = let_wait {name = placed_name n (next s)} (wait_again waits (third s) more)
  statement_again (final_wait {name = n} waits) s more = final_wait {name = placed_name n (second s)} (wait_again waits (third (next s)) more)

  pub block_again : {in_task : Bool} {body : Statements} {tokens rest : List Token} → WritesStatements in_task body tokens rest → (s : List Place) (more : List TokenKind)
      → WritesStatements in_task (placed_block body s) (tokens_at s (block_tokens body ++ more)) (tokens_at (after (block_tokens body) s) more)
  block_again closed s more = closed
  block_again (one_more {first = f} {others = o} first others) s more =
      simp (append_assoc, after_append) (one_more (statement_again first s (block_tokens o ++ more)) (block_again others (after (statement_tokens f) s) more))

  arms_again : {in_task : Bool} {arms : Arms} {tokens rest : List Token} → WritesArms in_task arms tokens rest → (s : List Place) (more : List TokenKind)
      → WritesArms in_task (placed_arms false arms s) (tokens_at s (arms_tokens false arms ++ more)) (tokens_at (after (arms_tokens false arms) s) more)
  arms_again (if_arm {condition = c} {body = b} {next = n} condition body others) s more =
      simp (append_assoc, after_append)
      (if_arm (expression_again condition 0 (second s) _) (block_again body (past c (second s)) (arms_tokens true n ++ more)) (more_arms_again others (after (block_tokens b) (past c (second s))) more))

  more_arms_again : {in_task : Bool} {arms : Arms} {tokens rest : List Token} → MoreArms in_task arms tokens rest → (s : List Place) (more : List TokenKind)
      → MoreArms in_task (placed_arms true arms s) (tokens_at s (arms_tokens true arms ++ more)) (tokens_at (after (arms_tokens true arms) s) more)
  more_arms_again no_more_arms s more = no_more_arms
  more_arms_again (else_block body) s more = else_block (block_again body (second s) more)
  more_arms_again (else_if arms) s more = behind_else arms s more (arms_again arms (next s) more)
