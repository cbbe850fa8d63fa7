-- When each number in a body refers to an existing declaration or variable, of the kind that is needed there.
use Rattle.std.specs.Prelude.{◌≡◌, ◌<◌, ℕ, ◌+◌, Bool, true, false, List, Option, None, Some, slice_get}
use Rattle.twe_program.specs.declared.program.Dims.{Dims}
use Rattle.twe_program.specs.declared.program.Dims.TheVariants.{Scalar, Row, Grid}
use Rattle.twe_program.specs.declared.program.CellDecl.{CellDecl}
use Rattle.twe_program.specs.declared.program.Decl.{Decl}
use Rattle.twe_program.specs.Expression.{Expression, Literal, Truth, Variable, CellValue, ArrayElement, GridElement, CallValue, Negative, Negation, Binary, Arguments, argument}
use Rattle.twe_program.specs.Expression as args
use Rattle.twe_program.specs.Statement.{Statement, Block, Let, Set, SetCell, SetArray, SetGrid, If, While, Return, Print, Call, Make, Wait, Statements, no_more, statement, Arms, arm, otherwise, no_else}
use Rattle.twe_program.specs.Numbering.{Declared}

-- the scope of a body: the declarations of the program, how many parameters and locals the body has, the futures that
-- it declares, by their numbers, and whether it returns a value
pub record Scope : Type 0 where
  pub cells : List CellDecl
  pub methods : List Decl
  pub tasks : List Decl
  pub vars : ℕ
  pub futures : List Declared
  pub int : Bool

-- a single cell takes no index, an array takes one, and a grid takes two
pub data HasShape : Dims → ℕ → Type 0 where
  no_index : HasShape Scalar 0
  one_index : {count : ℕ} → HasShape (Row count) 1
  two_indexes : {rows columns : ℕ} → HasShape (Grid rows columns) 2

-- there is such a declaration of cells, and it takes `count` indexes
abbrev pub TakesIndexes : Option CellDecl → ℕ → Type 0
TakesIndexes None count = ⊥
TakesIndexes (Some cell) count = HasShape cell.dims count

-- there is such a declaration, and it has `count` parameters
abbrev pub TakesArguments : Option Decl → ℕ → Type 0
TakesArguments None count = ⊥
TakesArguments (Some decl) count = decl.params ≡ count

-- there is such a declaration, and it returns a value
abbrev pub ReturnsValue : Option Decl → Type 0
ReturnsValue None = ⊥
ReturnsValue (Some decl) = decl.int ≡ true

-- how many arguments there are
abbrev pub count_of : Arguments → ℕ
count_of args.no_more = 0
count_of (argument first others) = count_of others + 1

-- Each variable of an expression exists. Each cell takes as many indexes as are written. Each method that is called takes
-- as many arguments as are written, and returns a value.
abbrev mutual
  pub ExpressionFits : Scope → Expression → Type 0
  ExpressionFits scope (Literal value) = Unit {0}
  ExpressionFits scope (Truth value) = Unit {0}
  ExpressionFits scope (Variable var fixed) = var < scope.vars
  ExpressionFits scope (CellValue cell place) = TakesIndexes (slice_get scope.cells cell) 0
  ExpressionFits scope (ArrayElement array index place) =
      TakesIndexes (slice_get scope.cells array) 1 × ExpressionFits scope index
  ExpressionFits scope (GridElement array row column place) =
      TakesIndexes (slice_get scope.cells array) 2 × ExpressionFits scope row × ExpressionFits scope column
  ExpressionFits scope (CallValue method args place) =
      TakesArguments (slice_get scope.methods method) (count_of args) × ReturnsValue (slice_get scope.methods method)
      × ArgumentsFit scope args
  ExpressionFits scope (Negative operand) = ExpressionFits scope operand
  ExpressionFits scope (Negation operand) = ExpressionFits scope operand
  ExpressionFits scope (Binary op left right place) = ExpressionFits scope left × ExpressionFits scope right

  pub ArgumentsFit : Scope → Arguments → Type 0
  ArgumentsFit scope args.no_more = Unit {0}
  ArgumentsFit scope (argument first others) = ExpressionFits scope first × ArgumentsFit scope others

-- each `return` has a value if the body returns one, and has none if the body returns nothing
abbrev pub ReturnFits : Scope → Option Expression → Type 0
ReturnFits scope None = scope.int ≡ false
ReturnFits scope (Some value) = (scope.int ≡ true) × ExpressionFits scope value

-- the local that takes the value exists, and the task returns a value
abbrev pub IntoFits : Scope → ℕ → Option ℕ → Type 0
IntoFits scope task None = Unit {0}
IntoFits scope task (Some var) = (var < scope.vars) × ReturnsValue (slice_get scope.tasks task)

-- the future is declared; a `join` waits for a task made by `spawn`, and a `getValue` for one made by `executeLater`
abbrev pub WaitFits : Scope → Option Declared → Bool → Option ℕ → Type 0
WaitFits scope None join into = ⊥
WaitFits scope (Some future) join into = (future.spawned ≡ join) × IntoFits scope future.task into

-- The expressions of a statement fit, and so do the numbers of the variables, cells, methods, tasks and futures that it
-- names. The value of a method that is called as a statement is not used, so the method may return none.
abbrev mutual
  pub StatementFits : Scope → Statement → Type 0
  StatementFits scope (Block point body) = StatementsFit scope body
  StatementFits scope (Let point var value) = (var < scope.vars) × ExpressionFits scope value
  StatementFits scope (Set point var value) = (var < scope.vars) × ExpressionFits scope value
  StatementFits scope (SetCell point cell value place) = TakesIndexes (slice_get scope.cells cell) 0 × ExpressionFits scope value
  StatementFits scope (SetArray point array index value place) =
      TakesIndexes (slice_get scope.cells array) 1 × ExpressionFits scope index × ExpressionFits scope value
  StatementFits scope (SetGrid point array row column value place) =
      TakesIndexes (slice_get scope.cells array) 2 × ExpressionFits scope row × ExpressionFits scope column
      × ExpressionFits scope value
  StatementFits scope (If point arms) = ArmsFit scope arms
  StatementFits scope (While point condition body place) = ExpressionFits scope condition × StatementsFit scope body
  StatementFits scope (Return point value) = ReturnFits scope value
  StatementFits scope (Print point value place) = ExpressionFits scope value
  StatementFits scope (Call point method args place) =
      TakesArguments (slice_get scope.methods method) (count_of args) × ArgumentsFit scope args
  StatementFits scope (Make point future task args spawned future_place place) =
      TakesArguments (slice_get scope.tasks task) (count_of args) × ArgumentsFit scope args
  StatementFits scope (Wait point future join into place) = WaitFits scope (slice_get scope.futures future) join into

  pub StatementsFit : Scope → Statements → Type 0
  StatementsFit scope no_more = Unit {0}
  StatementsFit scope (statement first others) = StatementFits scope first × StatementsFit scope others

  pub ArmsFit : Scope → Arms → Type 0
  ArmsFit scope no_else = Unit {0}
  ArmsFit scope (otherwise body) = StatementsFit scope body
  ArmsFit scope (arm condition body others) = ExpressionFits scope condition × StatementsFit scope body × ArmsFit scope others
