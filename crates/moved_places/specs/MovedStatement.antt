-- Statements with each place in them moved.
use Rattle.std.specs.Prelude.{Option, None, Some}
use Rattle.twe_base.specs.declared.place.Place.{Place}
use Rattle.twe_ast.specs.declared.stmt.WaitCall.{WaitCall}
use Rattle.twe_ast.specs.Expression.{Expression}
use Rattle.twe_ast.specs.Statement.{Statement, Block, Let, Set, SetArray, SetGrid, If, While, Return, Print, Call, Make, Wait, LetWait, Statements, end_of_block, statement, Arms, arm, otherwise, no_else}
use Rattle.moved_places.specs.MovedExpression.{moved_name, moved_expression, moved_arguments}

-- the value of a `return`, if it has one, with its places moved
abbrev pub moved_value : (Place → Place) → Option Expression → Option Expression
moved_value to None = None
moved_value to (Some value) = Some (moved_expression to value)

-- a wait with the place of its future moved
abbrev pub moved_wait : (Place → Place) → WaitCall → WaitCall
moved_wait to wait = record { future = moved_name to wait.future; join = wait.join }

-- a statement, a block and the arms of an `if`, with each place in them moved
abbrev mutual
  pub moved_statement : (Place → Place) → Statement → Statement
  moved_statement to (Block body) = Block (moved_block to body)
  moved_statement to (Let is_final local_type name value) =
      Let is_final local_type (moved_name to name) (moved_expression to value)
  moved_statement to (Set name value) = Set (moved_name to name) (moved_expression to value)
  moved_statement to (SetArray array index value) =
      SetArray (moved_name to array) (moved_expression to index) (moved_expression to value)
  moved_statement to (SetGrid array row column value) =
      SetGrid (moved_name to array) (moved_expression to row) (moved_expression to column) (moved_expression to value)
  moved_statement to (If arms) = If (moved_arms to arms)
  moved_statement to (While place condition body) = While (to place) (moved_expression to condition) (moved_block to body)
  moved_statement to (Return place value) = Return (to place) (moved_value to value)
  moved_statement to (Print place value) = Print (to place) (moved_expression to value)
  moved_statement to (Call method args) = Call (moved_name to method) (moved_arguments to args)
  moved_statement to (Make future task spawned args) =
      Make (moved_name to future) (moved_name to task) spawned (moved_arguments to args)
  moved_statement to (Wait wait) = Wait (moved_wait to wait)
  moved_statement to (LetWait is_final name wait) = LetWait is_final (moved_name to name) (moved_wait to wait)

  pub moved_block : (Place → Place) → Statements → Statements
  moved_block to (end_of_block close) = end_of_block (to close)
  moved_block to (statement first others) = statement (moved_statement to first) (moved_block to others)

  pub moved_arms : (Place → Place) → Arms → Arms
  moved_arms to no_else = no_else
  moved_arms to (otherwise body) = otherwise (moved_block to body)
  moved_arms to (arm condition body others) =
      arm (moved_expression to condition) (moved_block to body) (moved_arms to others)
