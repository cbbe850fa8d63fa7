-- The semantic actions that make expressions.
use Rattle.std.specs.Prelude.{ℕ, ◌+◌, negsuc, [], ◌∷◌, ◌++◌, ◌==◌, if◌then◌else◌}
use Rattle.twe_base.specs.Language.{max_literal}
use Rattle.twe_base.specs.declared.place.Place.{Place}
use Rattle.twe_ast.specs.Expression.{Expression, expression, Shape, Literal, Truth, Variable, ArrayElement, GridElement, CallValue, Negative, Negation, Binary}
use Rattle.twe_ast.specs.inner.ExpressionView.{arguments_of}
use Rattle.twe_parser.specs.declared.symbol.ExprAction.{ExprAction}
use Rattle.twe_parser.specs.declared.symbol.ExprAction.TheVariants as actions
use Rattle.twe_parser.specs.declared.value_stacks.ValueStacks.{ValueStacks}
use Rattle.twe_base.specs.Stacks.{top, below}
use Rattle.twe_parser.specs.Values.{literal_value_of}
use Rattle.twe_parser.specs.inner.ValueStacks.{nowhere, nothing, nameless}

-- the place of the first token of an expression
abbrev pub place_of : Expression → Place
place_of (expression place shape) = place

-- the same expression at this place
abbrev pub moved : Place → Expression → Expression
moved place (expression old shape) = expression place shape

-- `-` followed by a literal at this place
abbrev pub after_minus : Place → ℕ → Shape
after_minus place n =
    if n == max_literal + 1 then Literal (negsuc max_literal) else Negative (expression place (Literal (literal_value_of n)))

-- the stacks after an action that makes an expression, or begins or extends arguments
abbrev pub perform_expr : ExprAction → ValueStacks → ValueStacks
perform_expr actions.Literal w = record w {
  exprs = expression (top w.places nowhere) (Literal (literal_value_of (top w.numbers 0))) ∷ w.exprs;
  places = below w.places;
  numbers = below w.numbers;
}
perform_expr (actions.Truth value) w = record w {
  exprs = expression (top w.places nowhere) (Truth value) ∷ w.exprs;
  places = below w.places;
}
perform_expr actions.MinusLiteral w = record w {
  exprs = expression (top (below w.places) nowhere) (after_minus (top w.places nowhere) (top w.numbers 0)) ∷ w.exprs;
  places = below (below w.places);
  numbers = below w.numbers;
}
perform_expr actions.Negate w = record w {
  exprs = expression (top w.places nowhere) (Negative (top w.exprs nothing)) ∷ below w.exprs;
  places = below w.places;
}
perform_expr actions.Not w = record w {
  exprs = expression (top w.places nowhere) (Negation (top w.exprs nothing)) ∷ below w.exprs;
  places = below w.places;
}
perform_expr actions.Variable w = record w {
  exprs = (let name = top w.names nameless in expression name.place (Variable name)) ∷ w.exprs;
  names = below w.names;
}
perform_expr actions.Enclose w = record w {
  exprs = moved (top w.places nowhere) (top w.exprs nothing) ∷ below w.exprs;
  places = below w.places;
}
perform_expr (actions.Binary op) w = record w {
  exprs =
      (let left = top (below w.exprs) nothing in
      expression (place_of left) (Binary op left (top w.exprs nothing) (top w.places nowhere)))
      ∷ below (below w.exprs);
  places = below w.places;
}
perform_expr actions.NewArgs w = record w { args = [] ∷ w.args }
perform_expr actions.KeepArg w = record w {
  args = (top w.args [] ++ top w.exprs nothing ∷ []) ∷ below w.args;
  exprs = below w.exprs;
}
perform_expr actions.CallValue w = record w {
  exprs = (let name = top w.names nameless in expression name.place (CallValue name (arguments_of (top w.args [])))) ∷ w.exprs;
  names = below w.names;
  args = below w.args;
}
perform_expr actions.Element w = record w {
  exprs = (let name = top w.names nameless in expression name.place (ArrayElement name (top w.exprs nothing))) ∷ below w.exprs;
  names = below w.names;
}
perform_expr actions.GridElement w = record w {
  exprs =
      (let name = top w.names nameless in
      expression name.place (GridElement name (top (below w.exprs) nothing) (top w.exprs nothing)))
      ∷ below (below w.exprs);
  names = below w.names;
}
