-- A statement, as contracts see it: a tree. `point` is the number of the point just before the statement. The point of
-- a `while` is just before each test of its condition.
use Rattle.std.specs.Prelude.{ℕ, Bool, Option, List, [], ◌∷◌}
use Rattle.twe_base.specs.declared.place.Place.{Place}
use Rattle.twe_program.specs.Expression.{Expression, Arguments}

mutual
  -- the kinds of statement, each with its parts
  pub data Statement : Type 0 where
    Block : (point : ℕ) (body : Statements) → Statement
    -- the declaration of a local with its value, and an assignment to a local
    Let : (point var : ℕ) (value : Expression) → Statement
    Set : (point var : ℕ) (value : Expression) → Statement
    -- the assignment to a cell, to an element of an array, or to an element of a grid
    SetCell : (point cell : ℕ) (value : Expression) (place : Place) → Statement
    SetArray : (point array : ℕ) (index value : Expression) (place : Place) → Statement
    SetGrid : (point array : ℕ) (row column value : Expression) (place : Place) → Statement
    If : (point : ℕ) (arms : Arms) → Statement
    While : (point : ℕ) (condition : Expression) (body : Statements) (place : Place) → Statement
    Return : (point : ℕ) (value : Option Expression) → Statement
    Print : (point : ℕ) (value : Expression) (place : Place) → Statement
    -- the call of a method whose value, if it has one, is dropped
    Call : (point method : ℕ) (args : Arguments) (place : Place) → Statement
    -- a `spawn` or an `executeLater`: it makes a task
    Make : (point future task : ℕ) (args : Arguments) (spawned : Bool) (future_place place : Place) → Statement
    -- a `join` or a `getValue`: it waits for a task, and a local may take the task's value
    Wait : (point future : ℕ) (join : Bool) (into : Option ℕ) (place : Place) → Statement

  -- the statements of a block, in order
  pub data Statements : Type 0 where
    no_more : Statements
    statement : (first : Statement) (others : Statements) → Statements

  -- the arms of an `if`, in order: each with its condition, and then the last `else`, if there is one
  pub data Arms : Type 0 where
    arm : (condition : Expression) (body : Statements) (others : Arms) → Arms
    otherwise : (body : Statements) → Arms
    no_else : Arms

-- these statements, as a block
abbrev pub statements_of : List Statement → Statements
statements_of [] = no_more
statements_of (first ∷ others) = statement first (statements_of others)
