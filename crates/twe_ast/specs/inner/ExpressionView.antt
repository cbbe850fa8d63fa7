-- The expression that a node of the tree is seen as.
use Rattle.std.specs.Prelude.{List, [], ◌∷◌, None, Some}
use Rattle.twe_ast.specs.Expression.{Expression, Shape, Literal, Truth, Variable, ArrayElement, GridElement, CallValue, Negative, Negation, Binary, Arguments, no_more, argument}
use Rattle.twe_ast.specs.declared.expr.ExprKind.{ExprKind}
use Rattle.twe_ast.specs.declared.expr.ExprKind.TheVariants as kinds

-- these expressions, as arguments
abbrev pub arguments_of : List Expression → Arguments
arguments_of [] = no_more
arguments_of (first ∷ others) = argument first (arguments_of others)

-- the shape that a kind of expression in memory is seen as
abbrev pub shape_of : ExprKind → Shape
shape_of (kinds.Lit value) = Literal value
shape_of (kinds.Truth value) = Truth value
shape_of (kinds.Name name) = Variable name
shape_of (kinds.At array index None) = ArrayElement array index.value
shape_of (kinds.At array index (Some second)) = GridElement array index.value second.value
shape_of (kinds.Call method args) = CallValue method args
shape_of (kinds.Neg operand) = Negative operand.value
shape_of (kinds.Not operand) = Negation operand.value
shape_of (kinds.Bin op left right place) = Binary op left.value right.value place
