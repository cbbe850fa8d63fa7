-- The types of expressions.
use Rattle.std.specs.Prelude.{ℕ, Bool, true, false, ◌&&◌, ◌==◌, if◌then◌else◌, List, Option, None, Some, ◌+◌}
use Rattle.twe_ast.specs.declared.expr.BinOp.{BinOp}
use Rattle.twe_ast.specs.declared.expr.BinOp.TheVariants as ops
use Rattle.twe_ast.specs.declared.item.ReturnType.TheVariants as return_types
use Rattle.twe_ast.specs.declared.stmt.LocalType.{LocalType}
use Rattle.twe_ast.specs.declared.stmt.LocalType.TheVariants.{Int, Boolean}
use Rattle.twe_ast.specs.Expression.{Expression, expression, Shape, Literal, Truth, Variable, ArrayElement, GridElement, CallValue, Negative, Negation, Binary, Arguments, no_more, argument}
use Rattle.name_check.specs.declared.binding.Global.TheVariants as global_kinds
use Rattle.name_check.specs.declared.binding.Local.TheVariants as local_kinds
use Rattle.name_check.specs.declared.binding.Binding.{Binding}
use Rattle.name_check.specs.declared.binding.Binding.TheVariants as bindings
use Rattle.name_check.specs.declared.names.GlobalName.{GlobalName}
use Rattle.name_check.specs.declared.scope.LocalName.{LocalName}
use Rattle.name_check.specs.Names.{binding_of}

-- the number of arguments
abbrev pub argument_count : Arguments → ℕ
argument_count no_more = 0
argument_count (argument first others) = argument_count others + 1

-- both types are there, and the same
abbrev pub same_type : Option LocalType → Option LocalType → Bool
same_type (Some Int) (Some Int) = true
same_type (Some Boolean) (Some Boolean) = true
same_type _ _ = false

-- what an operator needs on its left: any type for `==` and `!=`
abbrev pub left_need : BinOp → Option LocalType
left_need ops.Or = Some Boolean
left_need ops.And = Some Boolean
left_need ops.Equal = None
left_need ops.NotEqual = None
left_need _ = Some Int

-- what it needs on its right, if its left operand has this type: for `==` and `!=` the same type
abbrev pub right_need : BinOp → Option LocalType → Option LocalType
right_need ops.Equal left = left
right_need ops.NotEqual left = left
right_need op left = left_need op

-- the type of the value of an operator
abbrev pub gives : BinOp → LocalType
gives ops.Add = Int
gives ops.Sub = Int
gives ops.Mul = Int
gives ops.Div = Int
gives ops.Rem = Int
gives _ = Boolean

-- the type of a name that is used as a value: a scalar cell's is `int`
abbrev pub type_of_name : Option Binding → Option LocalType
type_of_name (Some (bindings.Local (local_kinds.Variable number local_type constant))) = Some local_type
type_of_name (Some (bindings.Global (global_kinds.Cells number indexes))) = if indexes == 0 then Some Int else None
type_of_name _ = None

-- the type of an element of an array or a grid with `given` indexes
abbrev pub type_of_element : Option Binding → ℕ → Option LocalType
type_of_element (Some (bindings.Global (global_kinds.Cells number indexes))) given = if indexes == given then Some Int else None
type_of_element _ given = None

-- the type of a call with `given` arguments: that of what the method returns
abbrev pub type_of_call : Option Binding → ℕ → Option LocalType
type_of_call (Some (bindings.Global (global_kinds.Method number params return_types.Int))) given =
    if params == given then Some Int else None
type_of_call _ given = None

-- the type if the condition holds, and none otherwise
abbrev pub type_if : Bool → Option LocalType → Option LocalType
type_if true type = type
type_if false type = None

-- there is a type, and it is the one that is needed, if one is
abbrev pub agrees : Option LocalType → Option LocalType → Bool
agrees None None = false
agrees None (Some type) = true
agrees (Some need) type = same_type (Some need) type

-- both operands have the types that the operator needs
abbrev pub operands_agree : BinOp → Option LocalType → Option LocalType → Bool
operands_agree op left right = agrees (left_need op) left && agrees (right_need op left) right

-- The type of an expression. There is none if a rule fails inside it.
abbrev mutual
  pub type_of : List GlobalName → List LocalName → Expression → Option LocalType
  type_of globals locals (expression place shape) = type_of_shape globals locals shape

  pub type_of_shape : List GlobalName → List LocalName → Shape → Option LocalType
  type_of_shape globals locals (Literal value) = Some Int
  type_of_shape globals locals (Truth value) = Some Boolean
  type_of_shape globals locals (Variable name) = type_of_name (binding_of globals locals name.text)
  type_of_shape globals locals (ArrayElement array index) =
      type_if (same_type (type_of globals locals index) (Some Int)) (type_of_element (binding_of globals locals array.text) 1)
  type_of_shape globals locals (GridElement array row column) =
      type_if (same_type (type_of globals locals row) (Some Int) && same_type (type_of globals locals column) (Some Int))
      (type_of_element (binding_of globals locals array.text) 2)
  type_of_shape globals locals (CallValue method args) =
      type_if (are_ints globals locals args) (type_of_call (binding_of globals locals method.text) (argument_count args))
  type_of_shape globals locals (Negative operand) = type_if (same_type (type_of globals locals operand) (Some Int)) (Some Int)
  type_of_shape globals locals (Negation operand) =
      type_if (same_type (type_of globals locals operand) (Some Boolean)) (Some Boolean)
  type_of_shape globals locals (Binary op left right place) =
      type_if (operands_agree op (type_of globals locals left) (type_of globals locals right)) (Some (gives op))

  pub are_ints : List GlobalName → List LocalName → Arguments → Bool
  are_ints globals locals no_more = true
  are_ints globals locals (argument first others) =
      same_type (type_of globals locals first) (Some Int) && are_ints globals locals others
