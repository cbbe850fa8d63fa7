-- The measure of a continuation: it falls with each step that takes no unit of fuel.
use Rattle.std.specs.Prelude.{ℕ, ◌+◌, List, [], ◌∷◌, None, Some}
use Rattle.twe_program.specs.Expression.{Expression, Literal, Truth, Variable, CellValue, ArrayElement, GridElement, CallValue, Negative, Negation, Binary, Arguments, argument}
use Rattle.twe_program.specs.Expression as args
use Rattle.twe_program.specs.Statement.{Statement, Block, Let, Set, SetCell, SetArray, SetGrid, If, While, Return, Print, Call, Make, Wait, Statements, no_more, statement, Arms, arm, otherwise, no_else}
use Rattle.seg_exec.specs.inner.steps.Continuations.{Continuation, Evaluate, Execute, Rest, Choose, Chosen, Gather, Take, Right}

-- the measures of an expression and of arguments
abbrev mutual
  -- the measure of an expression
  pub size_of_expression : Expression → ℕ
  size_of_expression (Literal value) = 1
  size_of_expression (Truth value) = 1
  size_of_expression (Variable var fixed) = 1
  size_of_expression (CellValue cell place) = 1
  size_of_expression (ArrayElement array index place) = size_of_expression index + 2
  size_of_expression (GridElement array row column place) = size_of_expression row + size_of_expression column + 2
  size_of_expression (CallValue method args place) = size_of_arguments args + 2
  size_of_expression (Negative operand) = size_of_expression operand + 2
  size_of_expression (Negation operand) = size_of_expression operand + 2
  size_of_expression (Binary op left right place) = size_of_expression left + size_of_expression right + 3

  -- the measure of arguments
  pub size_of_arguments : Arguments → ℕ
  size_of_arguments args.no_more = 0
  size_of_arguments (argument first others) = size_of_expression first + size_of_arguments others + 2

-- the measures of a statement, of the statements of a block, and of the arms of an `if`
abbrev mutual
  -- the measure of a statement. A loop counts only its condition and a call only its arguments, since a turn and a call
  -- take a unit of fuel.
  pub size_of_statement : Statement → ℕ
  size_of_statement (Block point body) = size_of_all body + 2
  size_of_statement (Let point var value) = size_of_expression value + 2
  size_of_statement (Set point var value) = size_of_expression value + 2
  size_of_statement (SetCell point cell value place) = size_of_expression value + 2
  size_of_statement (SetArray point array index value place) = size_of_expression index + size_of_expression value + 2
  size_of_statement (SetGrid point array row column value place) =
      size_of_expression row + size_of_expression column + size_of_expression value + 2
  size_of_statement (If point arms) = size_of_arms arms + 2
  size_of_statement (While point condition body place) = size_of_expression condition + 2
  size_of_statement (Return point None) = 2
  size_of_statement (Return point (Some value)) = size_of_expression value + 2
  size_of_statement (Print point value place) = size_of_expression value + 2
  size_of_statement (Call point method args place) = size_of_arguments args + 3
  size_of_statement (Make point future task args spawned future_place place) = size_of_arguments args + 2
  size_of_statement (Wait point future join into place) = 1

  -- the measure of the statements of a block
  pub size_of_all : Statements → ℕ
  size_of_all no_more = 0
  size_of_all (statement first others) = size_of_statement first + size_of_all others + 1

  -- the measure of the arms of an `if`
  pub size_of_arms : Arms → ℕ
  size_of_arms no_else = 0
  size_of_arms (otherwise body) = size_of_all body + 1
  size_of_arms (arm condition body others) = size_of_expression condition + size_of_all body + size_of_arms others + 4

-- the measure of a continuation frame; it is at least 1, so that a frame that is dropped leaves less
abbrev pub size_of_continuation : Continuation → ℕ
size_of_continuation (Evaluate e) = size_of_expression e
size_of_continuation (Execute s) = size_of_statement s
size_of_continuation (Rest block at stmts) = size_of_all stmts + 1
size_of_continuation (Choose block arms) = size_of_arms arms + 1
size_of_continuation (Chosen block next body others) = size_of_all body + size_of_arms others + 3
size_of_continuation (Gather taken args goal) = size_of_arguments args + 1
size_of_continuation (Take taken args goal) = size_of_arguments args + 2
size_of_continuation (Right op right place) = size_of_expression right + 2
size_of_continuation _ = 1

-- the measure of a continuation: the sum of those of its frames
abbrev pub size_of_work : List Continuation → ℕ
size_of_work [] = 0
size_of_work (next ∷ work) = size_of_continuation next + size_of_work work
