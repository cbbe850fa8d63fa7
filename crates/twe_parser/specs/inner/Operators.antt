-- The operator that a terminal stands for between two operands, if it is one.
use Rattle.std.specs.Prelude.{Option, None, Some}
use Rattle.twe_ast.specs.declared.expr.BinOp.{BinOp}
use Rattle.twe_ast.specs.declared.expr.BinOp.TheVariants as operators
use Rattle.twe_lexer.specs.declared.fixed.Fixed.TheVariants as fixed
use Rattle.twe_parser.specs.declared.symbol.Terminal.{Terminal}
use Rattle.twe_parser.specs.declared.symbol.Terminal.TheVariants as next

-- the operator that the terminal is between two operands, if it is one
abbrev pub operator_of : Terminal → Option BinOp
operator_of (next.Fixed fixed.Or) = Some operators.Or
operator_of (next.Fixed fixed.And) = Some operators.And
operator_of (next.Fixed fixed.Equal) = Some operators.Equal
operator_of (next.Fixed fixed.NotEqual) = Some operators.NotEqual
operator_of (next.Fixed fixed.Less) = Some operators.Less
operator_of (next.Fixed fixed.LessEqual) = Some operators.LessEqual
operator_of (next.Fixed fixed.Greater) = Some operators.Greater
operator_of (next.Fixed fixed.GreaterEqual) = Some operators.GreaterEqual
operator_of (next.Fixed fixed.Plus) = Some operators.Add
operator_of (next.Fixed fixed.Minus) = Some operators.Sub
operator_of (next.Fixed fixed.Star) = Some operators.Mul
operator_of (next.Fixed fixed.Slash) = Some operators.Div
operator_of (next.Fixed fixed.Percent) = Some operators.Rem
operator_of _ = None
