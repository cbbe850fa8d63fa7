-- Statements as contracts see them.
use Rattle.std.specs.Prelude.{Bool, Option}
use Rattle.twe_base.specs.declared.place.Place.{Place}
use Rattle.twe_ast.specs.declared.name.Name.{Name}
use Rattle.twe_ast.specs.declared.stmt.LocalType.{LocalType}
use Rattle.twe_ast.specs.declared.stmt.WaitCall.{WaitCall}
use Rattle.twe_ast.specs.Expression.{Expression, Arguments}

mutual
  -- the kinds of statement, each with its parts
  pub data Statement : Type 0 where
    Block : (body : Statements) → Statement
    -- the declaration of a local, and an assignment to a local or a cell
    Let : (is_final : Bool) (local_type : LocalType) (name : Name) (value : Expression) → Statement
    Set : (name : Name) (value : Expression) → Statement
    -- the assignment to an element of an array, or to an element of a grid
    SetArray : (array : Name) (index value : Expression) → Statement
    SetGrid : (array : Name) (row column value : Expression) → Statement
    If : (arms : Arms) → Statement
    -- the place is that of the word `while`, `return` or `print`
    While : (place : Place) (condition : Expression) (body : Statements) → Statement
    Return : (place : Place) (value : Option Expression) → Statement
    Print : (place : Place) (value : Expression) → Statement
    -- the call of a method whose value, if there is one, is not used
    Call : (method : Name) (args : Arguments) → Statement
    -- the making of a task by `spawn` or by `executeLater`
    Make : (future task : Name) (spawned : Bool) (args : Arguments) → Statement
    -- a wait for a task, and the declaration of an `int` local whose initial value is that of a task
    Wait : (wait : WaitCall) → Statement
    LetWait : (is_final : Bool) (name : Name) (wait : WaitCall) → Statement

  -- the statements of a block, in order, followed by the place of its closing brace
  pub data Statements : Type 0 where
    end_of_block : (close : Place) → Statements
    statement : (first : Statement) (others : Statements) → Statements

  -- the arms of an `if`, in order: each with its condition, followed by the last `else`, if there is one
  pub data Arms : Type 0 where
    arm : (condition : Expression) (body : Statements) (others : Arms) → Arms
    otherwise : (body : Statements) → Arms
    no_else : Arms
