-- Programs without the places in them.
use Rattle.std.specs.Prelude.{◌≡◌, Option, None, Some, map}
use Rattle.twe_base.specs.declared.place.Place.{Place}
use Rattle.twe_program.specs.declared.program.Body.{Body}
use Rattle.twe_program.specs.declared.program.CellDecl.{CellDecl}
use Rattle.twe_program.specs.declared.program.Decl.{Decl}
use Rattle.twe_program.specs.Program.{Program}
use Rattle.twe_program.specs.Expression.{Expression, Literal, Truth, Variable, CellValue, ArrayElement, GridElement, CallValue, Negative, Negation, Binary, Arguments, argument}
use Rattle.twe_program.specs.Expression as args
use Rattle.twe_program.specs.Statement.{Statement, Block, Let, Set, SetCell, SetArray, SetGrid, If, While, Return, Print, Call, Make, Wait, Statements, no_more, statement, Arms, arm, otherwise, no_else}

-- the place that stands for every place
abbrev pub no_place : Place
no_place = record { line = 0; col = 0 }

-- an expression without the places in it
abbrev mutual
  pub bare_expression : Expression → Expression
  bare_expression (Literal value) = Literal value
  bare_expression (Truth value) = Truth value
  bare_expression (Variable var fixed) = Variable var fixed
  bare_expression (CellValue cell place) = CellValue cell no_place
  bare_expression (ArrayElement array index place) = ArrayElement array (bare_expression index) no_place
  bare_expression (GridElement array row column place) = GridElement array (bare_expression row) (bare_expression column) no_place
  bare_expression (CallValue method args place) = CallValue method (bare_arguments args) no_place
  bare_expression (Negative operand) = Negative (bare_expression operand)
  bare_expression (Negation operand) = Negation (bare_expression operand)
  bare_expression (Binary op left right place) = Binary op (bare_expression left) (bare_expression right) no_place

  pub bare_arguments : Arguments → Arguments
  bare_arguments args.no_more = args.no_more
  bare_arguments (argument first others) = argument (bare_expression first) (bare_arguments others)

-- the value of a `return` without the places in it
abbrev pub placeless_value : Option Expression → Option Expression
placeless_value None = None
placeless_value (Some value) = Some (bare_expression value)

-- a statement without the places in it and in the statements inside it
abbrev mutual
  pub bare_statement : Statement → Statement
  bare_statement (Block point body) = Block point (bare_statements body)
  bare_statement (Let point var value) = Let point var (bare_expression value)
  bare_statement (Set point var value) = Set point var (bare_expression value)
  bare_statement (SetCell point cell value place) = SetCell point cell (bare_expression value) no_place
  bare_statement (SetArray point array index value place) =
      SetArray point array (bare_expression index) (bare_expression value) no_place
  bare_statement (SetGrid point array row column value place) =
      SetGrid point array (bare_expression row) (bare_expression column) (bare_expression value) no_place
  bare_statement (If point arms) = If point (bare_arms arms)
  bare_statement (While point condition body place) = While point (bare_expression condition) (bare_statements body) no_place
  bare_statement (Return point value) = Return point (placeless_value value)
  bare_statement (Print point value place) = Print point (bare_expression value) no_place
  bare_statement (Call point method args place) = Call point method (bare_arguments args) no_place
  bare_statement (Make point future task args spawned future_place place) =
      Make point future task (bare_arguments args) spawned no_place no_place
  bare_statement (Wait point future join into place) = Wait point future join into no_place

  pub bare_statements : Statements → Statements
  bare_statements no_more = no_more
  bare_statements (statement first others) = statement (bare_statement first) (bare_statements others)

  pub bare_arms : Arms → Arms
  bare_arms (arm condition body others) = arm (bare_expression condition) (bare_statements body) (bare_arms others)
  bare_arms (otherwise body) = otherwise (bare_statements body)
  bare_arms no_else = no_else

-- a declaration of cells without its place
abbrev pub placeless_cell : CellDecl → CellDecl
placeless_cell cell = record cell { place = no_place }

-- a body without the places in it
abbrev pub bare_body : Body → Body
bare_body body = record body { block = bare_statements body.block; close = no_place }

-- a method or a task without the places in it
abbrev pub placeless_decl : Decl → Decl
placeless_decl decl = record decl { body = bare_body decl.body; place = no_place }

-- a program without the places in it
abbrev pub bare_program : Program → Program
bare_program p = record p {
  cells = map placeless_cell p.cells;
  methods = map placeless_decl p.methods;
  tasks = map placeless_decl p.tasks;
}

-- two programs are equal except for the places in them
abbrev pub SameButPlaces : Program → Program → Type 0
SameButPlaces p q = bare_program p ≡ bare_program q
