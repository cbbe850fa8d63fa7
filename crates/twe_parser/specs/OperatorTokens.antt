-- The tokens of operators with two operands.
use Rattle.twe_ast.specs.declared.expr.BinOp.{BinOp}
use Rattle.twe_ast.specs.declared.expr.BinOp.TheVariants as operators
use Rattle.twe_lexer.specs.declared.fixed.Fixed.{Fixed}
use Rattle.twe_lexer.specs.declared.fixed.Fixed.TheVariants as fixed

-- the symbol that an operator is written with
abbrev pub operator : BinOp → Fixed
operator operators.Or = fixed.Or
operator operators.And = fixed.And
operator operators.Equal = fixed.Equal
operator operators.NotEqual = fixed.NotEqual
operator operators.Less = fixed.Less
operator operators.LessEqual = fixed.LessEqual
operator operators.Greater = fixed.Greater
operator operators.GreaterEqual = fixed.GreaterEqual
operator operators.Add = fixed.Plus
operator operators.Sub = fixed.Minus
operator operators.Mul = fixed.Star
operator operators.Div = fixed.Slash
operator operators.Rem = fixed.Percent
