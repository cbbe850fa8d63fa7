-- The words of statements keep the limits where their tokens do.
use Rattle.std.proofs.Common.{ℕ, suc, Bool, true, false, List, ◌∷◌, ◌++◌, append_assoc, arith}
use Rattle.twe_ast.specs.declared.stmt.LocalType.TheVariants as locals
use Rattle.twe_ast.specs.declared.stmt.LocalType.{LocalType}
use Rattle.twe_ast.specs.declared.stmt.WaitCall.{WaitCall}
use Rattle.twe_ast.specs.Expression.{Expression}
use Rattle.twe_ast.specs.Statement.{Statement, Statements, Arms}
use Rattle.twe_base.specs.declared.place.Place.{Place}
use Rattle.twe_lexer.specs.declared.fixed.Fixed.TheVariants as fixed
use Rattle.twe_lexer.specs.declared.token.Token.{Token}
use Rattle.twe_lexer.specs.declared.token.TokenKind.{TokenKind}
use Rattle.twe_lexer.specs.declared.token.TokenKind.TheVariants as kinds
use Rattle.twe_parser.specs.Written.{word}
use Rattle.twe_parser.specs.WritesExpression.{WritesExpression}
use Rattle.twe_parser.specs.WritesStatement.{type_word, wait_word, make_word, WritesWait, wait, WritesStatement, block, let_local, let_final, set, set_array, set_grid, if_arms, while, return_nothing, return_value, print, call, make, wait_for, let_wait, final_wait, WritesStatements, closed, one_more, WritesArms, if_arm, MoreArms, no_more_arms, else_block, else_if}
use Rattle.ast_printer.specs.ExpressionTokens.{expression_tokens}
use Rattle.ast_printer.specs.StatementTokens.{wait_tokens, statement_tokens, block_tokens, arms_tokens}
use Rattle.ast_printer.proofs.Passing.{Passed, FromAny, step}
use Rattle.ast_printer.proofs.PassesExpression.{expression_passes, arguments_pass}

type_step : (local_type : LocalType) {o p : ℕ} {ended minus : Bool} {place : Place} {tokens : List Token} {words : List TokenKind} → Passed o p false false tokens words
    → Passed o p ended minus (word (type_word local_type) place ∷ tokens) (kinds.Fixed (type_word local_type) ∷ words)
type_step locals.Int follows = step follows
type_step locals.Boolean follows = step follows

wait_step : (join : Bool) {o p : ℕ} {ended minus : Bool} {place : Place} {tokens : List Token} {words : List TokenKind} → Passed o p false false tokens words
    → Passed o p ended minus (word (wait_word join) place ∷ tokens) (kinds.Fixed (wait_word join) ∷ words)
wait_step true follows = step follows
wait_step false follows = step follows

make_step : (spawned : Bool) {o p : ℕ} {ended minus : Bool} {place : Place} {tokens : List Token} {words : List TokenKind} → Passed o p false false tokens words
    → Passed o p ended minus (word (make_word spawned) place ∷ tokens) (kinds.Fixed (make_word spawned) ∷ words)
make_step true follows = step follows
make_step false follows = step follows

-- an expression that begins after a token that no operand ends with
whole_passes : {e : Expression} {tokens rest : List Token} → WritesExpression 0 e tokens rest → {o p : ℕ} → (more : List TokenKind) → Passed o p true false rest more → Passed o p false false tokens (expression_tokens 0 e ++ more)
whole_passes writes more follows = expression_passes writes 0 (omega arith) {minus = false} tt more follows

wait_passes : {call : WaitCall} {tokens rest : List Token} → WritesWait call tokens rest → {o p : ℕ} → (more : List TokenKind) → FromAny o p rest more → FromAny o p tokens (wait_tokens call ++ more)
wait_passes (wait {join = j}) more follows ended minus = step (step (wait_step j (step (step (step (follows false false))))))

-- a further arm stands behind `else`
behind_else : {in_task : Bool} {arms : Arms} {tokens rest : List Token} → WritesArms in_task arms tokens rest → {o p : ℕ} {ended minus : Bool} {place : Place} (more : List TokenKind)
    → Passed o p false false tokens (arms_tokens false arms ++ more) → Passed o p ended minus (word fixed.Else place ∷ tokens) (arms_tokens true arms ++ more)
behind_else (if_arm condition body others) more follows = step follows

mutual
  pub statement_passes : {in_task : Bool} {st : Statement} {tokens rest : List Token} → WritesStatement in_task st tokens rest → {o p : ℕ} → (more : List TokenKind) → FromAny o p rest more
      → FromAny o p tokens (statement_tokens st ++ more)
  statement_passes (block body) more follows ended minus = step (block_passes body more follows false false)
  statement_passes (let_local {local_type = t} value) more follows ended minus =
      simp append_assoc (type_step t (step (step (whole_passes value (kinds.Fixed fixed.Semicolon ∷ more) (step (follows false false))))))
  statement_passes (let_final {local_type = t} value) more follows ended minus =
      simp append_assoc (step (type_step t (step (step (whole_passes value (kinds.Fixed fixed.Semicolon ∷ more) (step (follows false false)))))))
  statement_passes (set value) more follows ended minus =
      simp append_assoc (step (step (whole_passes value (kinds.Fixed fixed.Semicolon ∷ more) (step (follows false false)))))
  statement_passes (set_array index value) more follows ended minus =
      simp append_assoc (step (step (whole_passes index _ (step (step (whole_passes value (kinds.Fixed fixed.Semicolon ∷ more) (step (follows false false))))))))
  statement_passes (set_grid row column value) more follows ended minus =
      simp append_assoc
      (step (step (whole_passes row _ (step (step (whole_passes column _ (step (step (whole_passes value (kinds.Fixed fixed.Semicolon ∷ more) (step (follows false false)))))))))))
  statement_passes (if_arms arms) more follows ended minus = arms_pass arms more follows ended minus
  statement_passes (while condition body) more follows ended minus =
      simp append_assoc (step (step (whole_passes condition _ (step (step (block_passes body more follows false false))))))
  statement_passes return_nothing more follows ended minus = step (step (follows false false))
  statement_passes (return_value value) more follows ended minus = simp append_assoc (step (whole_passes value (kinds.Fixed fixed.Semicolon ∷ more) (step (follows false false))))
  statement_passes (print value) more follows ended minus =
      simp append_assoc (step (step (whole_passes value (kinds.Fixed fixed.CloseParen ∷ kinds.Fixed fixed.Semicolon ∷ more) (step (step (follows false false))))))
  statement_passes (call args) more follows ended minus = simp append_assoc (step (step (arguments_pass args (kinds.Fixed fixed.Semicolon ∷ more) (step (follows false false)))))
  statement_passes (make {spawned = s} args) more follows ended minus =
      simp append_assoc (step (step (step (step (step (make_step s (step (arguments_pass args (kinds.Fixed fixed.Semicolon ∷ more) (step (follows false false))))))))))
  statement_passes (wait_for waits) more follows ended minus = wait_passes waits more follows ended minus
  statement_passes (let_wait waits) more follows ended minus = step (step (step (wait_passes waits more follows false false)))
  statement_passes (final_wait waits) more follows ended minus = step (step (step (step (wait_passes waits more follows false false))))

  -- a block after its `{`
  pub block_passes : {in_task : Bool} {body : Statements} {tokens rest : List Token} → WritesStatements in_task body tokens rest → {o p : ℕ} → (more : List TokenKind) → FromAny o p rest more
      → FromAny (suc o) (suc p) tokens (block_tokens body ++ more)
  block_passes closed more follows ended minus = step (follows false false)
  block_passes (one_more {others = o} first others) more follows ended minus =
      simp append_assoc (statement_passes first (block_tokens o ++ more) (block_passes others more follows) ended minus)

  arms_pass : {in_task : Bool} {arms : Arms} {tokens rest : List Token} → WritesArms in_task arms tokens rest → {o p : ℕ} → (more : List TokenKind) → FromAny o p rest more → FromAny o p tokens (arms_tokens false arms ++ more)
  arms_pass (if_arm {next = n} condition body others) more follows ended minus =
      simp append_assoc (step (step (whole_passes condition _ (step (step (block_passes body (arms_tokens true n ++ more) (more_arms_pass others more follows) false false))))))

  more_arms_pass : {in_task : Bool} {arms : Arms} {tokens rest : List Token} → MoreArms in_task arms tokens rest → {o p : ℕ} → (more : List TokenKind) → FromAny o p rest more → FromAny o p tokens (arms_tokens true arms ++ more)
  more_arms_pass no_more_arms more follows ended minus = follows ended minus
  more_arms_pass (else_block body) more follows ended minus = step (step (block_passes body more follows false false))
  more_arms_pass (else_if arms) more follows ended minus = behind_else arms more (arms_pass arms more follows false false)
