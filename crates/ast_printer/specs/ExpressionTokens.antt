-- The printed tokens of an expression.
--
-- An expression is printed at a level: at level n no operator outside parentheses has a precedence below n.
use Rattle.std.specs.Prelude.{ℕ, ◌+◌, ℤ, pos, negsuc, suc, Bool, true, false, nat_lt, List, [], ◌∷◌, ◌++◌}
use Rattle.twe_ast.specs.declared.expr.BinOp.{BinOp}
use Rattle.twe_ast.specs.Expression.{Expression, expression, Shape, Literal, Truth, Variable, ArrayElement, GridElement, CallValue, Negative, Negation, Binary, Arguments, no_more, argument}
use Rattle.twe_lexer.specs.declared.fixed.Fixed.{Fixed}
use Rattle.twe_lexer.specs.declared.fixed.Fixed.TheVariants as fixed
use Rattle.twe_lexer.specs.declared.token.TokenKind.{TokenKind}
use Rattle.twe_lexer.specs.declared.token.TokenKind.TheVariants as kinds
use Rattle.twe_ast.specs.Precedence.{level_of}
use Rattle.twe_parser.specs.OperatorTokens.{operator}
use Rattle.ast_printer.specs.Text.{when}

-- a literal, after `-` if it is negative
abbrev pub literal_tokens : ℤ → List TokenKind
literal_tokens (pos n) = kinds.Literal n ∷ []
literal_tokens (negsuc n) = kinds.Fixed fixed.Minus ∷ kinds.Literal (suc n) ∷ []

-- the word of a truth value
abbrev pub truth_token : Bool → Fixed
truth_token true = fixed.True
truth_token false = fixed.False

-- Whether an operator with its operands is printed in parentheses at this level: if its precedence is lower. Nothing else
-- is ever printed in parentheses.
abbrev pub needs_parentheses : ℕ → BinOp → Bool
needs_parentheses level op = nat_lt (level_of op) level

-- the printed tokens of an expression at a level, and those of its shape
abbrev mutual
  pub expression_tokens : ℕ → Expression → List TokenKind
  expression_tokens level (expression place shape) = shape_tokens level shape

  -- The left operand of an operator of precedence n is printed at level n, and the right one at level n + 1. The operand of
  -- a sign is printed at level 6, above all operators. Inside brackets or parentheses the level is 0.
  pub shape_tokens : ℕ → Shape → List TokenKind
  shape_tokens level (Literal value) = literal_tokens value
  shape_tokens level (Truth value) = kinds.Fixed (truth_token value) ∷ []
  shape_tokens level (Variable name) = kinds.Name name.text ∷ []
  shape_tokens level (ArrayElement array index) =
      kinds.Name array.text ∷ kinds.Fixed fixed.OpenBracket ∷ (expression_tokens 0 index ++ kinds.Fixed fixed.CloseBracket ∷ [])
  shape_tokens level (GridElement array row column) =
      kinds.Name array.text ∷ kinds.Fixed fixed.OpenBracket ∷ (expression_tokens 0 row
      ++ kinds.Fixed fixed.CloseBracket ∷ kinds.Fixed fixed.OpenBracket ∷ (expression_tokens 0 column
      ++ kinds.Fixed fixed.CloseBracket ∷ []))
  shape_tokens level (CallValue method args) = kinds.Name method.text ∷ kinds.Fixed fixed.OpenParen ∷ arguments_tokens false args
  shape_tokens level (Negative operand) = kinds.Fixed fixed.Minus ∷ expression_tokens 6 operand
  shape_tokens level (Negation operand) = kinds.Fixed fixed.Not ∷ expression_tokens 6 operand
  shape_tokens level (Binary op left right place) =
      when (needs_parentheses level op) fixed.OpenParen
      ++ (expression_tokens (level_of op) left
      ++ kinds.Fixed (operator op) ∷ (expression_tokens (level_of op + 1) right
      ++ when (needs_parentheses level op) fixed.CloseParen))

  -- arguments and the `)` after them; `later` is whether others come before them
  pub arguments_tokens : Bool → Arguments → List TokenKind
  arguments_tokens later no_more = kinds.Fixed fixed.CloseParen ∷ []
  arguments_tokens later (argument first others) =
      when later fixed.Comma ++ (expression_tokens 0 first ++ arguments_tokens true others)
