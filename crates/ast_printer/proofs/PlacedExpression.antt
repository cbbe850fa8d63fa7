-- Expressions with the places of the tokens that they are printed as.
use Rattle.std.proofs.Common.{◌≡◌, ℕ, ◌+◌, Bool, true, false, List, refl, ap}
use Rattle.twe_base.specs.declared.place.Place.{Place}
use Rattle.twe_ast.specs.declared.expr.BinOp.{BinOp}
use Rattle.twe_ast.specs.Expression.{Expression, expression, Shape, Literal, Truth, Variable, ArrayElement, GridElement, CallValue, Negative, Negation, Binary, Arguments, no_more, argument}
use Rattle.twe_lexer.specs.declared.fixed.Fixed.TheVariants as fixed
use Rattle.twe_ast.specs.Precedence.{level_of}
use Rattle.ast_printer.specs.Text.{when}
use Rattle.ast_printer.specs.ExpressionTokens.{needs_parentheses, expression_tokens}
use Rattle.ast_printer.specs.BareExpression.{bare_name, bare_expression, bare_shape, bare_arguments, nowhere}
use Rattle.ast_printer.proofs.Supply.{here, next, after, placed_name}

-- the places from the left operand of an operator on, and from the operator on
abbrev pub at_left : ℕ → BinOp → List Place → List Place
at_left level op s = after (when (needs_parentheses level op) fixed.OpenParen) s

abbrev pub at_operator : ℕ → BinOp → Expression → List Place → List Place
at_operator level op left s = after (expression_tokens (level_of op) left) (at_left level op s)

abbrev mutual
  pub placed_expression : ℕ → Expression → List Place → Expression
  placed_expression level (expression place shape) s = expression (here s) (placed_shape level shape s)

  pub placed_shape : ℕ → Shape → List Place → Shape
  placed_shape level (Literal value) s = Literal value
  placed_shape level (Truth value) s = Truth value
  placed_shape level (Variable name) s = Variable (placed_name name s)
  placed_shape level (ArrayElement array index) s = ArrayElement (placed_name array s) (placed_expression 0 index (next (next s)))
  placed_shape level (GridElement array row column) s =
      GridElement (placed_name array s) (placed_expression 0 row (next (next s))) (placed_expression 0 column (next (next (after (expression_tokens 0 row) (next (next s))))))
  placed_shape level (CallValue method args) s = CallValue (placed_name method s) (placed_arguments false args (next (next s)))
  placed_shape level (Negative operand) s = Negative (placed_expression 6 operand (next s))
  placed_shape level (Negation operand) s = Negation (placed_expression 6 operand (next s))
  placed_shape level (Binary op left right place) s =
      Binary op (placed_expression (level_of op) left (at_left level op s)) (placed_expression (level_of op + 1) right (next (at_operator level op left s)))
      (here (at_operator level op left s))

  pub placed_arguments : Bool → Arguments → List Place → Arguments
  placed_arguments later no_more s = no_more
  placed_arguments later (argument first others) s =
      argument (placed_expression 0 first (after (when later fixed.Comma) s)) (placed_arguments true others (after (expression_tokens 0 first) (after (when later fixed.Comma) s)))

mutual
  pub same_expression : (level : ℕ) (e : Expression) (s : List Place) → bare_expression (placed_expression level e s) ≡ bare_expression e
  same_expression level (expression place shape) s = ap (expression nowhere) (same_shape level shape s)

  pub same_shape : (level : ℕ) (shape : Shape) (s : List Place) → bare_shape (placed_shape level shape s) ≡ bare_shape shape
  same_shape level (Literal value) s = refl
  same_shape level (Truth value) s = refl
  same_shape level (Variable name) s = refl
  same_shape level (ArrayElement array index) s = ap (ArrayElement (bare_name array)) (same_expression 0 index (next (next s)))
  same_shape level (GridElement array row column) s =
      λ i. GridElement (bare_name array) (same_expression 0 row (next (next s)) i) (same_expression 0 column (next (next (after (expression_tokens 0 row) (next (next s))))) i)
  same_shape level (CallValue method args) s = ap (CallValue (bare_name method)) (same_arguments false args (next (next s)))
  same_shape level (Negative operand) s = ap Negative (same_expression 6 operand (next s))
  same_shape level (Negation operand) s = ap Negation (same_expression 6 operand (next s))
  same_shape level (Binary op left right place) s =
      λ i. Binary op (same_expression (level_of op) left (at_left level op s) i) (same_expression (level_of op + 1) right (next (at_operator level op left s)) i) nowhere

  pub same_arguments : (later : Bool) (args : Arguments) (s : List Place) → bare_arguments (placed_arguments later args s) ≡ bare_arguments args
  same_arguments later no_more s = refl
  same_arguments later (argument first others) s =
      λ i. argument (same_expression 0 first (after (when later fixed.Comma) s) i) (same_arguments true others (after (expression_tokens 0 first) (after (when later fixed.Comma) s)) i)
