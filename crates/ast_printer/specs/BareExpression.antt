-- Expressions without their places.
use Rattle.twe_base.specs.declared.place.Place.{Place}
use Rattle.twe_ast.specs.declared.name.Name.{Name}
use Rattle.twe_ast.specs.Expression.{Expression, expression, Shape, Literal, Truth, Variable, ArrayElement, GridElement, CallValue, Negative, Negation, Binary, Arguments, no_more, argument}

-- the place that stands for every place in a tree without places
abbrev pub nowhere : Place
nowhere = record { line = 0; col = 0 }

-- a name without its place
abbrev pub bare_name : Name → Name
bare_name name = record { text = name.text; place = nowhere }

-- an expression, its shape and arguments, with `nowhere` for each place in them
abbrev mutual
  pub bare_expression : Expression → Expression
  bare_expression (expression place shape) = expression nowhere (bare_shape shape)

  pub bare_shape : Shape → Shape
  bare_shape (Literal value) = Literal value
  bare_shape (Truth value) = Truth value
  bare_shape (Variable name) = Variable (bare_name name)
  bare_shape (ArrayElement array index) = ArrayElement (bare_name array) (bare_expression index)
  bare_shape (GridElement array row column) = GridElement (bare_name array) (bare_expression row) (bare_expression column)
  bare_shape (CallValue method args) = CallValue (bare_name method) (bare_arguments args)
  bare_shape (Negative operand) = Negative (bare_expression operand)
  bare_shape (Negation operand) = Negation (bare_expression operand)
  bare_shape (Binary op left right place) = Binary op (bare_expression left) (bare_expression right) nowhere

  pub bare_arguments : Arguments → Arguments
  bare_arguments no_more = no_more
  bare_arguments (argument first others) = argument (bare_expression first) (bare_arguments others)
