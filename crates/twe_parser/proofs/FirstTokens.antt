-- The first tokens of expressions.
use Rattle.std.proofs.Common.{◌≡◌, ℕ, Bool, true, false, List, [], ◌∷◌, not, refl, sym, ap}
use Rattle.std.proofs.lemmas.Bool.{false≢true}
use Rattle.twe_ast.specs.declared.expr.BinOp.{BinOp}
use Rattle.twe_ast.specs.declared.expr.BinOp.TheVariants as operators
use Rattle.twe_ast.specs.Expression.{Expression, Shape}
use Rattle.twe_lexer.specs.declared.fixed.Fixed.TheVariants as fixed
use Rattle.twe_lexer.specs.declared.token.Token.{Token}
use Rattle.twe_parser.specs.declared.symbol.Action.TheVariants.{Expr, Stmt}
use Rattle.twe_parser.specs.declared.symbol.ExprAction.TheVariants as exprs
use Rattle.twe_parser.specs.declared.symbol.Nonterminal.TheVariants as nonterminals
use Rattle.twe_parser.specs.declared.symbol.StmtAction.TheVariants as stmts
use Rattle.twe_parser.specs.declared.symbol.Symbol.TheVariants as symbols
use Rattle.twe_parser.specs.declared.symbol.Terminal.{Terminal}
use Rattle.twe_parser.specs.declared.symbol.Terminal.TheVariants as next
use Rattle.twe_ast.specs.declared.stmt.LocalType.TheVariants as locals
use Rattle.twe_parser.specs.OperatorTokens.{operator}
use Rattle.twe_parser.specs.WritesExpression.{WritesExpression, written, WritesShape, binary, negative, smallest, negation, literal, yes, no, variable, call, array, grid, parentheses}
use Rattle.twe_parser.specs.inner.Productions.{followed, unary_production, args_production, return_value_production, int_value_production}
use Rattle.twe_base.specs.Stacks.{below}
use Rattle.twe_parser.specs.inner.Terminals.{terminal_of}

-- what an expression can begin with
abbrev pub begins_operand : Terminal → Bool
begins_operand next.Name = true
begins_operand next.Literal = true
begins_operand (next.Fixed fixed.True) = true
begins_operand (next.Fixed fixed.False) = true
begins_operand (next.Fixed fixed.OpenParen) = true
begins_operand (next.Fixed fixed.Minus) = true
begins_operand (next.Fixed fixed.Not) = true
begins_operand _ = false

abbrev pub begins_so : (Terminal → Bool) → List Token → Bool
begins_so test [] = false
begins_so test (token ∷ tokens) = test (terminal_of token.kind)

mutual
  pub expression_begins : {level : ℕ} {e : Expression} {tokens rest : List Token} → WritesExpression level e tokens rest → begins_so begins_operand tokens ≡ true
  expression_begins (written shape) = shape_begins shape

  pub shape_begins : {level : ℕ} {shape : Shape} {tokens rest : List Token} → WritesShape level shape tokens rest → begins_so begins_operand tokens ≡ true
  shape_begins (binary le left right) = expression_begins left
  shape_begins (negative other operand) = refl
  shape_begins smallest = refl
  shape_begins (negation operand) = refl
  shape_begins literal = refl
  shape_begins yes = refl
  shape_begins no = refl
  shape_begins variable = refl
  shape_begins (call args) = refl
  shape_begins (array index) = refl
  shape_begins (grid row column) = refl
  shape_begins (parentheses inside) = refl

-- so these nonterminals begin as an operand does
pub args_begin : (terminal : Terminal) → begins_operand terminal ≡ true → args_production terminal ≡ followed (unary_production terminal) (symbols.Expand (nonterminals.Climb 0) ∷ symbols.Perform (Expr exprs.KeepArg) ∷ symbols.Expand nonterminals.MoreArgs ∷ [])
args_begin (next.Fixed fixed.CloseParen) begins = absurd (false≢true begins)
args_begin _ begins = refl

pub return_begins : (terminal : Terminal) → begins_operand terminal ≡ true → return_value_production terminal ≡ followed (unary_production terminal) (symbols.Expand (nonterminals.Climb 0) ∷ symbols.Token fixed.Semicolon ∷ symbols.Perform (Stmt stmts.Return) ∷ [])
return_begins (next.Fixed fixed.Semicolon) begins = absurd (false≢true begins)
return_begins _ begins = refl

-- a name
abbrev pub is_name : Terminal → Bool
is_name next.Name = true
is_name _ = false

pub value_begins : (terminal : Terminal) (is_final : Bool) → is_name terminal ≡ false →
    int_value_production true is_final terminal ≡ followed (unary_production terminal) (symbols.Expand (nonterminals.Climb 0) ∷ symbols.Token fixed.Semicolon ∷ symbols.Perform (Stmt (stmts.Let is_final locals.Int)) ∷ [])
value_begins next.Name is_final other = absurd (false≢true (sym other))
value_begins _ is_final other = refl

-- a `.`
abbrev pub is_dot : Terminal → Bool
is_dot (next.Fixed fixed.Dot) = true
is_dot _ = false

abbrev pub dotless : List Token → Bool
dotless [] = true
dotless (token ∷ tokens) = not (is_dot (terminal_of token.kind))

operator_no_dot : (op : BinOp) → is_dot (next.Fixed (operator op)) ≡ false
operator_no_dot operators.Or = refl
operator_no_dot operators.And = refl
operator_no_dot operators.Equal = refl
operator_no_dot operators.NotEqual = refl
operator_no_dot operators.Less = refl
operator_no_dot operators.LessEqual = refl
operator_no_dot operators.Greater = refl
operator_no_dot operators.GreaterEqual = refl
operator_no_dot operators.Add = refl
operator_no_dot operators.Sub = refl
operator_no_dot operators.Mul = refl
operator_no_dot operators.Div = refl
operator_no_dot operators.Rem = refl

mutual
  -- no `.` follows the name that an expression begins with
  pub second_token : {level : ℕ} {e : Expression} {tokens rest : List Token} → WritesExpression level e tokens rest → dotless rest ≡ true → begins_so is_name tokens ≡ true → dotless (below tokens) ≡ true
  second_token (written shape) ends name = second_of_shape shape ends name

  second_of_shape : {level : ℕ} {shape : Shape} {tokens rest : List Token} → WritesShape level shape tokens rest → dotless rest ≡ true → begins_so is_name tokens ≡ true → dotless (below tokens) ≡ true
  second_of_shape (binary {op = op} le left right) ends name = second_token left (ap not (operator_no_dot op)) name
  second_of_shape (negative other operand) ends name = absurd (false≢true name)
  second_of_shape smallest ends name = absurd (false≢true name)
  second_of_shape (negation operand) ends name = absurd (false≢true name)
  second_of_shape literal ends name = absurd (false≢true name)
  second_of_shape yes ends name = absurd (false≢true name)
  second_of_shape no ends name = absurd (false≢true name)
  second_of_shape variable ends name = ends
  second_of_shape (call args) ends name = refl
  second_of_shape (array index) ends name = refl
  second_of_shape (grid row column) ends name = refl
  second_of_shape (parentheses inside) ends name = absurd (false≢true name)
