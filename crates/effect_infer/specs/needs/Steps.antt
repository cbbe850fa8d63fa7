-- The steps of a body: it reads and writes cells, prints, and calls methods. Code that no run reaches counts too.
use Rattle.std.specs.Prelude.{ℕ, Bool, true, false, List, [], ◌∷◌, ◌++◌, Option, None, Some, slice_get}
use Rattle.region_paths.specs.declared.elements.Elem.{Elem}
use Rattle.region_paths.specs.declared.elements.Elem.TheVariants.{Name}
use Rattle.twe_program.specs.declared.program.CellDecl.{CellDecl}
use Rattle.twe_program.specs.Expression.{Expression, Literal, Truth, Variable, CellValue, ArrayElement, GridElement, CallValue, Negative, Negation, Binary, Arguments, argument}
use Rattle.twe_program.specs.Expression as args
use Rattle.twe_program.specs.Statement.{Statement, Block, Let, Set, SetCell, SetArray, SetGrid, If, While, Return, Print, Call, Make, Wait, Statements, no_more, statement, Arms, arm, otherwise, no_else}
use Rattle.effect_check.specs.Standing.{element_of_index, elements_of, elements_from}
use Rattle.effect_infer.specs.declared.needs.need.BodyStep.{BodyStep}
use Rattle.effect_infer.specs.declared.needs.need.BodyStep.TheVariants as kinds

-- the elements of the path of a cell, or of the element of an array or a grid at these indexes
abbrev pub declared_cell : List CellDecl → ℕ → List Elem → List Elem
declared_cell cells cell indexes = elements_from (slice_get cells cell) ++ indexes

-- a write or a read of what lies at these elements
abbrev pub touch_step : Bool → List Elem → BodyStep
touch_step write elems = kinds.Touch (record { write = write; elems = elems })

-- a call of a method, with the arguments as the rules see them
abbrev pub call_step : ℕ → Arguments → BodyStep
call_step method args = kinds.Call method (elements_of args)

-- a print writes the region `Console`, which is region 0
abbrev pub print : BodyStep
print = touch_step true (Name 0 ∷ [])

-- what is done to evaluate an expression
abbrev mutual
  pub steps_of : List CellDecl → Expression → List BodyStep
  steps_of cells (Literal value) = []
  steps_of cells (Truth value) = []
  steps_of cells (Variable var fixed) = []
  steps_of cells (CellValue cell place) = touch_step false (declared_cell cells cell []) ∷ []
  steps_of cells (ArrayElement array index place) =
      touch_step false (declared_cell cells array (element_of_index index ∷ [])) ∷ steps_of cells index
  steps_of cells (GridElement array row column place) =
      touch_step false (declared_cell cells array (element_of_index row ∷ element_of_index column ∷ []))
      ∷ (steps_of cells row ++ steps_of cells column)
  steps_of cells (CallValue method args place) = call_step method args ∷ steps_of_all cells args
  steps_of cells (Negative operand) = steps_of cells operand
  steps_of cells (Negation operand) = steps_of cells operand
  steps_of cells (Binary op left right place) = steps_of cells left ++ steps_of cells right

  pub steps_of_all : List CellDecl → Arguments → List BodyStep
  steps_of_all cells args.no_more = []
  steps_of_all cells (argument first others) = steps_of cells first ++ steps_of_all cells others

-- what a `return` does to evaluate its value
abbrev pub steps_of_value : List CellDecl → Option Expression → List BodyStep
steps_of_value cells None = []
steps_of_value cells (Some value) = steps_of cells value

-- what statements do, in all of their parts; tasks are made and awaited in the bodies of tasks alone
abbrev mutual
  pub steps_in : List CellDecl → Statement → List BodyStep
  steps_in cells (Block point body) = steps_in_all cells body
  steps_in cells (Let point var value) = steps_of cells value
  steps_in cells (Set point var value) = steps_of cells value
  steps_in cells (SetCell point cell value place) = touch_step true (declared_cell cells cell []) ∷ steps_of cells value
  steps_in cells (SetArray point array index value place) =
      touch_step true (declared_cell cells array (element_of_index index ∷ [])) ∷ (steps_of cells index ++ steps_of cells value)
  steps_in cells (SetGrid point array row column value place) =
      touch_step true (declared_cell cells array (element_of_index row ∷ element_of_index column ∷ []))
      ∷ (steps_of cells row ++ (steps_of cells column ++ steps_of cells value))
  steps_in cells (If point arms) = steps_in_one cells arms
  steps_in cells (While point condition body place) = steps_of cells condition ++ steps_in_all cells body
  steps_in cells (Return point value) = steps_of_value cells value
  steps_in cells (Print point value place) = print ∷ steps_of cells value
  steps_in cells (Call point method args place) = call_step method args ∷ steps_of_all cells args
  steps_in cells (Make point future task args spawned future_place place) = steps_of_all cells args
  steps_in cells (Wait point future join into place) = []

  pub steps_in_all : List CellDecl → Statements → List BodyStep
  steps_in_all cells no_more = []
  steps_in_all cells (statement first others) = steps_in cells first ++ steps_in_all cells others

  pub steps_in_one : List CellDecl → Arms → List BodyStep
  steps_in_one cells (arm condition body others) =
      steps_of cells condition ++ (steps_in_all cells body ++ steps_in_one cells others)
  steps_in_one cells (otherwise body) = steps_in_all cells body
  steps_in_one cells no_else = []
