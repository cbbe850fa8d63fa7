-- The tree that contracts see of an expression in memory.
use Rattle.std.specs.Prelude.{None, Some}
use Rattle.twe_program.specs.Expression.{Expression, Literal, Truth, Variable, CellValue, ArrayElement, GridElement, CallValue, Negative, Negation, Binary}
use Rattle.twe_program.specs.declared.expr.ExprKind.{ExprKind}
use Rattle.twe_program.specs.declared.expr.ExprKind.TheVariants as kinds

-- the expression that a kind of expression in memory is seen as
abbrev pub expression_of : ExprKind → Expression
expression_of (kinds.Lit value) = Literal value
expression_of (kinds.Truth value) = Truth value
expression_of (kinds.Var var fixed) = Variable var fixed
expression_of (kinds.Cell cell place) = CellValue cell place
expression_of (kinds.At array index None place) = ArrayElement array index.value place
expression_of (kinds.At array index (Some second) place) = GridElement array index.value second.value place
expression_of (kinds.Call method args place) = CallValue method args place
expression_of (kinds.Neg operand) = Negative operand.value
expression_of (kinds.Not operand) = Negation operand.value
expression_of (kinds.Bin op left right place) = Binary op left.value right.value place
