-- What a text needs at a place: a name with a binding of some kind, an expression of some type, a name that is new, or a
-- value that is returned.
use Rattle.std.specs.Prelude.{true, List, [], ◌∷◌, ◌++◌, Option, None, Some}
use Rattle.twe_base.specs.declared.place.Place.{Place}
use Rattle.twe_ast.specs.declared.name.Name.{Name}
use Rattle.twe_ast.specs.declared.stmt.LocalType.{LocalType}
use Rattle.twe_ast.specs.declared.stmt.LocalType.TheVariants.{Int, Boolean}
use Rattle.twe_ast.specs.Expression.{Expression, expression, Shape, Literal, Truth, Variable, ArrayElement, GridElement, CallValue, Negative, Negation, Binary, Arguments, no_more, argument}
use Rattle.name_check.specs.declared.binding.NameUse.{NameUse}
use Rattle.name_check.specs.declared.binding.NameUse.TheVariants as name_use
use Rattle.name_check.specs.declared.names.GlobalName.{GlobalName}
use Rattle.name_check.specs.declared.scope.LocalName.{LocalName}
use Rattle.name_check.specs.Types.{argument_count, left_need, right_need, type_of}

-- one thing that a text needs: a name for a use, a type for an expression, a new name, or a return
pub data Ask : Type 0 where
  -- a name is used
  uses : (name : Name) (name_use : NameUse) → Ask
  -- this type is needed of an expression
  needs : (type : LocalType) (value : Expression) → Ask
  -- a parameter, a local or a future gets this name
  declares : (name : Name) → Ask
  -- a value is returned, which begins here; or none is, by a `return` here
  returns_value : (place : Place) → Ask
  returns_nothing : (place : Place) → Ask

-- the need of this type for the expression, if a type is needed
abbrev pub need : Option LocalType → Expression → List Ask
need None value = []
need (Some type) value = needs type value ∷ []

-- the place of an expression
abbrev pub place_of : Expression → Place
place_of (expression place shape) = place

-- what an expression needs of which this type is needed, if one is
abbrev mutual
  pub asks_of : List GlobalName → List LocalName → Option LocalType → Expression → List Ask
  asks_of globals locals type (expression place shape) =
      asks_inside globals locals shape ++ need type (expression place shape)

  pub asks_inside : List GlobalName → List LocalName → Shape → List Ask
  asks_inside globals locals (Literal value) = []
  asks_inside globals locals (Truth value) = []
  asks_inside globals locals (Variable name) = uses name name_use.Value ∷ []
  asks_inside globals locals (ArrayElement array index) = uses array (name_use.Array 1) ∷ asks_of globals locals (Some Int) index
  asks_inside globals locals (GridElement array row column) =
      uses array (name_use.Array 2) ∷ (asks_of globals locals (Some Int) row ++ asks_of globals locals (Some Int) column)
  asks_inside globals locals (CallValue method args) =
      uses method (name_use.Method (argument_count args) true) ∷ asks_of_all globals locals args
  asks_inside globals locals (Negative operand) = asks_of globals locals (Some Int) operand
  asks_inside globals locals (Negation operand) = asks_of globals locals (Some Boolean) operand
  asks_inside globals locals (Binary op left right place) =
      asks_of globals locals (left_need op) left ++ asks_of globals locals (right_need op (type_of globals locals left)) right

  -- each argument is an `int`
  pub asks_of_all : List GlobalName → List LocalName → Arguments → List Ask
  asks_of_all globals locals no_more = []
  asks_of_all globals locals (argument first others) =
      asks_of globals locals (Some Int) first ++ asks_of_all globals locals others
