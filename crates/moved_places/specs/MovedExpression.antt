-- Expressions with each place in them moved.
use Rattle.twe_base.specs.declared.place.Place.{Place}
use Rattle.twe_ast.specs.declared.name.Name.{Name}
use Rattle.twe_ast.specs.Expression.{Expression, expression, Shape, Literal, Truth, Variable, ArrayElement, GridElement, CallValue, Negative, Negation, Binary, Arguments, no_more, argument}

-- a name at another place
abbrev pub moved_name : (Place → Place) → Name → Name
moved_name to name = record { text = name.text; place = to name.place }

-- an expression, its shape and arguments, with each place in them moved
abbrev mutual
  pub moved_expression : (Place → Place) → Expression → Expression
  moved_expression to (expression place shape) = expression (to place) (moved_shape to shape)

  pub moved_shape : (Place → Place) → Shape → Shape
  moved_shape to (Literal value) = Literal value
  moved_shape to (Truth value) = Truth value
  moved_shape to (Variable name) = Variable (moved_name to name)
  moved_shape to (ArrayElement array index) = ArrayElement (moved_name to array) (moved_expression to index)
  moved_shape to (GridElement array row column) =
      GridElement (moved_name to array) (moved_expression to row) (moved_expression to column)
  moved_shape to (CallValue method args) = CallValue (moved_name to method) (moved_arguments to args)
  moved_shape to (Negative operand) = Negative (moved_expression to operand)
  moved_shape to (Negation operand) = Negation (moved_expression to operand)
  moved_shape to (Binary op left right place) =
      Binary op (moved_expression to left) (moved_expression to right) (to place)

  pub moved_arguments : (Place → Place) → Arguments → Arguments
  moved_arguments to no_more = no_more
  moved_arguments to (argument first others) = argument (moved_expression to first) (moved_arguments to others)
