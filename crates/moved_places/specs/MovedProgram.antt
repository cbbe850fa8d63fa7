-- Programs with each place in them moved.
use Rattle.std.specs.Prelude.{Option, None, Some, map}
use Rattle.twe_base.specs.declared.place.Place.{Place}
use Rattle.twe_program.specs.declared.program.Body.{Body}
use Rattle.twe_program.specs.declared.program.CellDecl.{CellDecl}
use Rattle.twe_program.specs.declared.program.Decl.{Decl}
use Rattle.twe_program.specs.Program.{Program}
use Rattle.twe_program.specs.Expression.{Expression, Literal, Truth, Variable, CellValue, ArrayElement, GridElement, CallValue, Negative, Negation, Binary, Arguments, argument}
use Rattle.twe_program.specs.Expression as args
use Rattle.twe_program.specs.Statement.{Statement, Block, Let, Set, SetCell, SetArray, SetGrid, If, While, Return, Print, Call, Make, Wait, Statements, no_more, statement, Arms, arm, otherwise, no_else}

-- an expression with each place in it moved
abbrev mutual
  pub moved_expression : (Place → Place) → Expression → Expression
  moved_expression to (Literal value) = Literal value
  moved_expression to (Truth value) = Truth value
  moved_expression to (Variable var fixed) = Variable var fixed
  moved_expression to (CellValue cell place) = CellValue cell (to place)
  moved_expression to (ArrayElement array index place) = ArrayElement array (moved_expression to index) (to place)
  moved_expression to (GridElement array row column place) =
      GridElement array (moved_expression to row) (moved_expression to column) (to place)
  moved_expression to (CallValue method args place) = CallValue method (moved_arguments to args) (to place)
  moved_expression to (Negative operand) = Negative (moved_expression to operand)
  moved_expression to (Negation operand) = Negation (moved_expression to operand)
  moved_expression to (Binary op left right place) =
      Binary op (moved_expression to left) (moved_expression to right) (to place)

  pub moved_arguments : (Place → Place) → Arguments → Arguments
  moved_arguments to args.no_more = args.no_more
  moved_arguments to (argument first others) = argument (moved_expression to first) (moved_arguments to others)

-- the value of a `return` with the places in it moved
abbrev pub moved_value : (Place → Place) → Option Expression → Option Expression
moved_value to None = None
moved_value to (Some value) = Some (moved_expression to value)

-- a statement with the places in it and in the statements inside it moved
abbrev mutual
  pub moved_statement : (Place → Place) → Statement → Statement
  moved_statement to (Block point body) = Block point (moved_statements to body)
  moved_statement to (Let point var value) = Let point var (moved_expression to value)
  moved_statement to (Set point var value) = Set point var (moved_expression to value)
  moved_statement to (SetCell point cell value place) = SetCell point cell (moved_expression to value) (to place)
  moved_statement to (SetArray point array index value place) =
      SetArray point array (moved_expression to index) (moved_expression to value) (to place)
  moved_statement to (SetGrid point array row column value place) =
      SetGrid point array (moved_expression to row) (moved_expression to column) (moved_expression to value) (to place)
  moved_statement to (If point arms) = If point (moved_arms to arms)
  moved_statement to (While point condition body place) =
      While point (moved_expression to condition) (moved_statements to body) (to place)
  moved_statement to (Return point value) = Return point (moved_value to value)
  moved_statement to (Print point value place) = Print point (moved_expression to value) (to place)
  moved_statement to (Call point method args place) = Call point method (moved_arguments to args) (to place)
  moved_statement to (Make point future task args spawned future_place place) =
      Make point future task (moved_arguments to args) spawned (to future_place) (to place)
  moved_statement to (Wait point future join into place) = Wait point future join into (to place)

  pub moved_statements : (Place → Place) → Statements → Statements
  moved_statements to no_more = no_more
  moved_statements to (statement first others) = statement (moved_statement to first) (moved_statements to others)

  pub moved_arms : (Place → Place) → Arms → Arms
  moved_arms to (arm condition body others) =
      arm (moved_expression to condition) (moved_statements to body) (moved_arms to others)
  moved_arms to (otherwise body) = otherwise (moved_statements to body)
  moved_arms to no_else = no_else

-- a declaration of cells with its place moved
abbrev pub moved_cell : (Place → Place) → CellDecl → CellDecl
moved_cell to cell = record cell { place = to cell.place }

-- a body with the places in it moved
abbrev pub moved_body : (Place → Place) → Body → Body
moved_body to body = record body { block = moved_statements to body.block; close = to body.close }

-- a method or a task with the places in it moved
abbrev pub moved_decl : (Place → Place) → Decl → Decl
moved_decl to decl = record decl { body = moved_body to decl.body; place = to decl.place }

-- a program with each place in it moved
abbrev pub moved_program : (Place → Place) → Program → Program
moved_program to p = record p {
  cells = map (moved_cell to) p.cells;
  methods = map (moved_decl to) p.methods;
  tasks = map (moved_decl to) p.tasks;
}
