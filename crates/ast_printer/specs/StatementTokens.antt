-- The printed tokens of statements and blocks.
use Rattle.std.specs.Prelude.{Bool, true, false, Option, None, Some, List, [], ◌∷◌, ◌++◌}
use Rattle.twe_ast.specs.declared.stmt.WaitCall.{WaitCall}
use Rattle.twe_ast.specs.Expression.{Expression}
use Rattle.twe_ast.specs.Statement.{Statement, Block, Let, Set, SetArray, SetGrid, If, While, Return, Print, Call, Make, Wait, LetWait, Statements, end_of_block, statement, Arms, arm, otherwise, no_else}
use Rattle.twe_lexer.specs.declared.fixed.Fixed.TheVariants as fixed
use Rattle.twe_lexer.specs.declared.token.TokenKind.{TokenKind}
use Rattle.twe_lexer.specs.declared.token.TokenKind.TheVariants as kinds
use Rattle.twe_parser.specs.WritesStatement.{type_word, wait_word, make_word}
use Rattle.ast_printer.specs.Text.{when}
use Rattle.ast_printer.specs.ExpressionTokens.{expression_tokens, arguments_tokens}

-- an expression and the `;` after it
abbrev pub value_tokens : Expression → List TokenKind
value_tokens value = expression_tokens 0 value ++ kinds.Fixed fixed.Semicolon ∷ []

-- the value of a `return`, if it has one, and the `;` after it
abbrev pub returned_tokens : Option Expression → List TokenKind
returned_tokens None = kinds.Fixed fixed.Semicolon ∷ []
returned_tokens (Some value) = value_tokens value

-- a wait and the `;` after it
abbrev pub wait_tokens : WaitCall → List TokenKind
wait_tokens wait =
    kinds.Name wait.future.text ∷ kinds.Fixed fixed.Dot ∷ kinds.Fixed (wait_word wait.join)
    ∷ kinds.Fixed fixed.OpenParen ∷ kinds.Fixed fixed.CloseParen ∷ kinds.Fixed fixed.Semicolon ∷ []

-- the printed tokens of a statement, of a block after its `{`, and of the arms of an `if`
abbrev mutual
  pub statement_tokens : Statement → List TokenKind
  statement_tokens (Block body) = kinds.Fixed fixed.OpenBrace ∷ block_tokens body
  statement_tokens (Let is_final local_type name value) =
      when is_final fixed.Final
      ++ kinds.Fixed (type_word local_type) ∷ kinds.Name name.text ∷ kinds.Fixed fixed.Assign ∷ value_tokens value
  statement_tokens (Set name value) = kinds.Name name.text ∷ kinds.Fixed fixed.Assign ∷ value_tokens value
  statement_tokens (SetArray array index value) =
      kinds.Name array.text ∷ kinds.Fixed fixed.OpenBracket ∷ (expression_tokens 0 index
      ++ kinds.Fixed fixed.CloseBracket ∷ kinds.Fixed fixed.Assign ∷ value_tokens value)
  statement_tokens (SetGrid array row column value) =
      kinds.Name array.text ∷ kinds.Fixed fixed.OpenBracket ∷ (expression_tokens 0 row
      ++ kinds.Fixed fixed.CloseBracket ∷ kinds.Fixed fixed.OpenBracket ∷ (expression_tokens 0 column
      ++ kinds.Fixed fixed.CloseBracket ∷ kinds.Fixed fixed.Assign ∷ value_tokens value))
  statement_tokens (If arms) = arms_tokens false arms
  statement_tokens (While place condition body) =
      kinds.Fixed fixed.While ∷ kinds.Fixed fixed.OpenParen ∷ (expression_tokens 0 condition
      ++ kinds.Fixed fixed.CloseParen ∷ kinds.Fixed fixed.OpenBrace ∷ block_tokens body)
  statement_tokens (Return place value) = kinds.Fixed fixed.Return ∷ returned_tokens value
  statement_tokens (Print place value) =
      kinds.Fixed fixed.Print ∷ kinds.Fixed fixed.OpenParen ∷ (expression_tokens 0 value
      ++ kinds.Fixed fixed.CloseParen ∷ kinds.Fixed fixed.Semicolon ∷ [])
  statement_tokens (Call method args) =
      kinds.Name method.text ∷ kinds.Fixed fixed.OpenParen ∷ (arguments_tokens false args ++ kinds.Fixed fixed.Semicolon ∷ [])
  statement_tokens (Make future task spawned args) =
      kinds.Fixed fixed.Future ∷ kinds.Name future.text ∷ kinds.Fixed fixed.Assign ∷ kinds.Name task.text
      ∷ kinds.Fixed fixed.Dot ∷ kinds.Fixed (make_word spawned) ∷ kinds.Fixed fixed.OpenParen
      ∷ (arguments_tokens false args ++ kinds.Fixed fixed.Semicolon ∷ [])
  statement_tokens (Wait wait) = wait_tokens wait
  statement_tokens (LetWait is_final name wait) =
      when is_final fixed.Final ++ kinds.Fixed fixed.Int ∷ kinds.Name name.text ∷ kinds.Fixed fixed.Assign ∷ wait_tokens wait

  -- the statements of a block and its `}`
  pub block_tokens : Statements → List TokenKind
  block_tokens (end_of_block close) = kinds.Fixed fixed.CloseBrace ∷ []
  block_tokens (statement first others) = statement_tokens first ++ block_tokens others

  -- the arms of an `if`; `later` is whether others come before them
  pub arms_tokens : Bool → Arms → List TokenKind
  arms_tokens later no_else = []
  arms_tokens later (otherwise body) = when later fixed.Else ++ kinds.Fixed fixed.OpenBrace ∷ block_tokens body
  arms_tokens later (arm condition body others) =
      when later fixed.Else ++ kinds.Fixed fixed.If ∷ kinds.Fixed fixed.OpenParen ∷ (expression_tokens 0 condition
      ++ kinds.Fixed fixed.CloseParen ∷ kinds.Fixed fixed.OpenBrace ∷ (block_tokens body ++ arms_tokens true others))
