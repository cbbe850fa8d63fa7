-- An expression, as contracts see it: a tree.
use Rattle.std.specs.Prelude.{ℕ, ℤ, Bool, true, false, ◌&&◌, List, [], ◌∷◌}
use Rattle.twe_base.specs.declared.place.Place.{Place}
use Rattle.twe_ast.specs.declared.expr.BinOp.{BinOp}

mutual
  -- the kinds of expression, each with its parts
  pub data Expression : Type 0 where
    -- an integer literal; `true` or `false`
    Literal : (value : ℤ) → Expression
    Truth : (value : Bool) → Expression
    -- the value of a parameter or a local; it is fixed if it is a parameter or a `final int` local
    Variable : (var : ℕ) (fixed : Bool) → Expression
    -- the value of a cell, of an element of an array, or of an element of a grid
    CellValue : (cell : ℕ) (place : Place) → Expression
    ArrayElement : (array : ℕ) (index : Expression) (place : Place) → Expression
    GridElement : (array : ℕ) (row column : Expression) (place : Place) → Expression
    -- the value that a method returns
    CallValue : (method : ℕ) (args : Arguments) (place : Place) → Expression
    Negative : (operand : Expression) → Expression
    Negation : (operand : Expression) → Expression
    Binary : (op : BinOp) (left right : Expression) (place : Place) → Expression

  -- the arguments of a call, from left to right
  pub data Arguments : Type 0 where
    no_more : Arguments
    argument : (first : Expression) (others : Arguments) → Arguments

-- these expressions, as arguments
abbrev pub arguments_of : List Expression → Arguments
arguments_of [] = no_more
arguments_of (first ∷ others) = argument first (arguments_of others)

-- whether an expression calls no method
abbrev pub is_plain : Expression → Bool
is_plain (Literal value) = true
is_plain (Truth value) = true
is_plain (Variable var fixed) = true
is_plain (CellValue cell place) = true
is_plain (ArrayElement array index place) = is_plain index
is_plain (GridElement array row column place) = is_plain row && is_plain column
is_plain (CallValue method args place) = false
is_plain (Negative operand) = is_plain operand
is_plain (Negation operand) = is_plain operand
is_plain (Binary op left right place) = is_plain left && is_plain right
