-- How tightly operators with two operands bind.
use Rattle.std.specs.Prelude.{ℕ}
use Rattle.twe_ast.specs.declared.expr.BinOp.{BinOp}
use Rattle.twe_ast.specs.declared.expr.BinOp.TheVariants as operators

-- The precedence of an operator: one with a higher level binds more tightly. Operands, and the signs `-` and `!` before
-- them, bind more tightly than every operator: their level is 6.
abbrev pub level_of : BinOp → ℕ
level_of operators.Or = 0
level_of operators.And = 1
level_of operators.Equal = 2
level_of operators.NotEqual = 2
level_of operators.Less = 3
level_of operators.LessEqual = 3
level_of operators.Greater = 3
level_of operators.GreaterEqual = 3
level_of operators.Add = 4
level_of operators.Sub = 4
level_of operators.Mul = 5
level_of operators.Div = 5
level_of operators.Rem = 5
