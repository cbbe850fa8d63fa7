-- Expressions as contracts see them: the place of the first token, and the shape. Parentheses that enclose an expression
-- affect only its place.
use Rattle.std.specs.Prelude.{ℤ, Bool}
use Rattle.twe_base.specs.declared.place.Place.{Place}
use Rattle.twe_ast.specs.declared.expr.BinOp.{BinOp}
use Rattle.twe_ast.specs.declared.name.Name.{Name}

mutual
  -- an expression: the place of its first token, and its shape
  pub data Expression : Type 0 where
    expression : (place : Place) (shape : Shape) → Expression

  -- the kinds of expression, each with its parts
  pub data Shape : Type 0 where
    -- a literal, or one of the two truth values
    Literal : (value : ℤ) → Shape
    Truth : (value : Bool) → Shape
    -- a local, a parameter or a cell; an element of an array; an element of a grid
    Variable : (name : Name) → Shape
    ArrayElement : (array : Name) (index : Expression) → Shape
    GridElement : (array : Name) (row column : Expression) → Shape
    -- the call of a method
    CallValue : (method : Name) (args : Arguments) → Shape
    Negative : (operand : Expression) → Shape
    Negation : (operand : Expression) → Shape
    -- an operator with its two operands; the place is the operator's
    Binary : (op : BinOp) (left right : Expression) (place : Place) → Shape

  -- the arguments of a call, from left to right
  pub data Arguments : Type 0 where
    no_more : Arguments
    argument : (first : Expression) (others : Arguments) → Arguments
