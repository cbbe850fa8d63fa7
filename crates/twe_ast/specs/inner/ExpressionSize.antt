-- The depth of an expression, which is greater than that of each of its parts.
use Rattle.std.specs.Prelude.{ℕ, ◌+◌, max}
use Rattle.twe_ast.specs.Expression.{Expression, expression, Shape, Literal, Truth, Variable, ArrayElement, GridElement, CallValue, Negative, Negation, Binary, Arguments, no_more, argument}

-- one more than the depth of the deepest part, and 0 without parts; a list of arguments is a part
abbrev mutual
  pub depth : Expression → ℕ
  depth (expression place shape) = depth_of_shape shape

  depth_of_shape : Shape → ℕ
  depth_of_shape (Literal value) = 0
  depth_of_shape (Truth value) = 0
  depth_of_shape (Variable name) = 0
  depth_of_shape (ArrayElement array index) = depth index + 1
  depth_of_shape (GridElement array row column) = max (depth row) (depth column) + 1
  depth_of_shape (CallValue method args) = depth_of_all args + 1
  depth_of_shape (Negative operand) = depth operand + 1
  depth_of_shape (Negation operand) = depth operand + 1
  depth_of_shape (Binary op left right place) = max (depth left) (depth right) + 1

  pub depth_of_all : Arguments → ℕ
  depth_of_all no_more = 0
  depth_of_all (argument first others) = max (depth first + 1) (depth_of_all others)
