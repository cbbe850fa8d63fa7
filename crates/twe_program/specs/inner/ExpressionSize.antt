-- The depth of an expression. Each of its parts is less deep.
use Rattle.std.specs.Prelude.{ℕ, ◌+◌, max}
use Rattle.twe_program.specs.Expression.{Expression, Literal, Truth, Variable, CellValue, ArrayElement, GridElement, CallValue, Negative, Negation, Binary, Arguments, no_more, argument}

-- one more than the depth of the deepest part, and 0 without parts; a list of arguments is a part
abbrev mutual
  pub depth : Expression → ℕ
  depth (Literal value) = 0
  depth (Truth value) = 0
  depth (Variable var fixed) = 0
  depth (CellValue cell place) = 0
  depth (ArrayElement array index place) = depth index + 1
  depth (GridElement array row column place) = max (depth row) (depth column) + 1
  depth (CallValue method args place) = depth_of_all args + 1
  depth (Negative operand) = depth operand + 1
  depth (Negation operand) = depth operand + 1
  depth (Binary op left right place) = max (depth left) (depth right) + 1

  pub depth_of_all : Arguments → ℕ
  depth_of_all no_more = 0
  depth_of_all (argument first others) = max (depth first + 1) (depth_of_all others)
