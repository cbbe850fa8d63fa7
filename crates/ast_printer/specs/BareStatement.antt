-- Statements without their places.
use Rattle.std.specs.Prelude.{Option, None, Some}
use Rattle.twe_ast.specs.declared.stmt.WaitCall.{WaitCall}
use Rattle.twe_ast.specs.Expression.{Expression}
use Rattle.twe_ast.specs.Statement.{Statement, Block, Let, Set, SetArray, SetGrid, If, While, Return, Print, Call, Make, Wait, LetWait, Statements, end_of_block, statement, Arms, arm, otherwise, no_else}
use Rattle.ast_printer.specs.BareExpression.{nowhere, bare_name, bare_expression, bare_arguments}

-- the value of a `return`, if it has one, without its places
abbrev pub bare_value : Option Expression → Option Expression
bare_value None = None
bare_value (Some value) = Some (bare_expression value)

-- a wait without the place of its future
abbrev pub bare_wait : WaitCall → WaitCall
bare_wait wait = record { future = bare_name wait.future; join = wait.join }

-- a statement, a block and the arms of an `if`, with `nowhere` for each place in them
abbrev mutual
  pub bare_statement : Statement → Statement
  bare_statement (Block body) = Block (bare_block body)
  bare_statement (Let is_final local_type name value) = Let is_final local_type (bare_name name) (bare_expression value)
  bare_statement (Set name value) = Set (bare_name name) (bare_expression value)
  bare_statement (SetArray array index value) = SetArray (bare_name array) (bare_expression index) (bare_expression value)
  bare_statement (SetGrid array row column value) =
      SetGrid (bare_name array) (bare_expression row) (bare_expression column) (bare_expression value)
  bare_statement (If arms) = If (bare_arms arms)
  bare_statement (While place condition body) = While nowhere (bare_expression condition) (bare_block body)
  bare_statement (Return place value) = Return nowhere (bare_value value)
  bare_statement (Print place value) = Print nowhere (bare_expression value)
  bare_statement (Call method args) = Call (bare_name method) (bare_arguments args)
  bare_statement (Make future task spawned args) = Make (bare_name future) (bare_name task) spawned (bare_arguments args)
  bare_statement (Wait wait) = Wait (bare_wait wait)
  bare_statement (LetWait is_final name wait) = LetWait is_final (bare_name name) (bare_wait wait)

  pub bare_block : Statements → Statements
  bare_block (end_of_block close) = end_of_block nowhere
  bare_block (statement first others) = statement (bare_statement first) (bare_block others)

  pub bare_arms : Arms → Arms
  bare_arms no_else = no_else
  bare_arms (otherwise body) = otherwise (bare_block body)
  bare_arms (arm condition body others) = arm (bare_expression condition) (bare_block body) (bare_arms others)
