-- What a body does at its points: it reads and writes cells and prints, calls methods, makes tasks and waits for them.
-- The effects of a method or a task are those of its summary, filled with the arguments as the rules see them.
use Rattle.std.specs.Prelude.{ℕ, Bool, true, false, List, [], ◌∷◌, ◌++◌, Option, None, Some, slice_get}
use Rattle.twe_base.specs.declared.place.Place.{Place}
use Rattle.region_paths.specs.declared.elements.Elem.{Elem}
use Rattle.region_paths.specs.Written.{WrittenPath}
use Rattle.effect_sets.specs.declared.effects.Summary.{Summary}
use Rattle.effect_sets.specs.Filled.{fill_summary}
use Rattle.twe_program.specs.declared.program.Decl.{Decl}
use Rattle.twe_program.specs.Program.{Program}
use Rattle.twe_program.specs.Expression.{Expression, Literal, Truth, Variable, CellValue, ArrayElement, GridElement, CallValue, Negative, Negation, Binary, Arguments, argument}
use Rattle.twe_program.specs.Expression as args
use Rattle.twe_program.specs.Statement.{Statement, Block, Let, Set, SetCell, SetArray, SetGrid, If, While, Return, Print, Call, Make, Wait, Statements, no_more, statement, Arms, arm, otherwise, no_else}
use Rattle.effect_check.specs.declared.act.Act.{Act}
use Rattle.effect_check.specs.declared.act.ActKind.TheVariants as kinds
use Rattle.effect_check.specs.Standing.{element_of_index, elements_of, path_at, console_element}

-- the summary of a declaration, filled
abbrev pub filled_summary : Option Decl → List Elem → Summary
filled_summary None elements = record { effects = [] }
filled_summary (Some decl) elements = fill_summary elements decl.summary

-- the declaration is there, and deterministic
abbrev pub is_deterministic : Option Decl → Bool
is_deterministic None = false
is_deterministic (Some decl) = decl.deterministic

-- an access at this point: a read or a write of what lies in the path; a print is a write of `Console`
abbrev pub touch : ℕ → Bool → WrittenPath → Place → Act
touch point write path place = record { point = point; kind = kinds.Touch (record { write = write; path = path }) place }

-- a call of a method, with the effects of its summary
abbrev pub call : Program → ℕ → ℕ → Arguments → Place → Act
call p point method args place = record {
  point = point;
  kind = kinds.Call (filled_summary (slice_get p.methods method) (elements_of args)) place;
}

-- the making of a task, by a spawn or an `executeLater`, with the effects of the task's summary
abbrev pub make : Program → ℕ → ℕ → ℕ → Arguments → Bool → Place → Place → Act
make p point future task args spawned future_place place = record {
  point = point;
  kind = kinds.Make future spawned (is_deterministic (slice_get p.tasks task))
      (filled_summary (slice_get p.tasks task) (elements_of args)) future_place place;
}

-- a wait for the task of a future, by a join or a `getValue`
abbrev pub wait : ℕ → ℕ → Bool → Place → Act
wait point future join place = record { point = point; kind = kinds.Wait future join place }

-- what is done at the point to evaluate an expression
abbrev mutual
  pub acts_of : Program → ℕ → Expression → List Act
  acts_of p point (Literal value) = []
  acts_of p point (Truth value) = []
  acts_of p point (Variable var fixed) = []
  acts_of p point (CellValue cell place) = touch point false (path_at p cell []) place ∷ []
  acts_of p point (ArrayElement array index place) =
      touch point false (path_at p array (element_of_index index ∷ [])) place ∷ acts_of p point index
  acts_of p point (GridElement array row column place) =
      touch point false (path_at p array (element_of_index row ∷ element_of_index column ∷ [])) place
      ∷ (acts_of p point row ++ acts_of p point column)
  acts_of p point (CallValue method args place) = call p point method args place ∷ acts_of_all p point args
  acts_of p point (Negative operand) = acts_of p point operand
  acts_of p point (Negation operand) = acts_of p point operand
  acts_of p point (Binary op left right place) = acts_of p point left ++ acts_of p point right

  pub acts_of_all : Program → ℕ → Arguments → List Act
  acts_of_all p point args.no_more = []
  acts_of_all p point (argument first others) = acts_of p point first ++ acts_of_all p point others

-- what a `return` does to evaluate its value
abbrev pub acts_of_value : Program → ℕ → Option Expression → List Act
acts_of_value p point None = []
acts_of_value p point (Some value) = acts_of p point value

-- what statements do, in all of their parts
abbrev mutual
  pub acts_in : Program → Statement → List Act
  acts_in p (Block point body) = acts_in_all p body
  acts_in p (Let point var value) = acts_of p point value
  acts_in p (Set point var value) = acts_of p point value
  acts_in p (SetCell point cell value place) = touch point true (path_at p cell []) place ∷ acts_of p point value
  acts_in p (SetArray point array index value place) =
      touch point true (path_at p array (element_of_index index ∷ [])) place ∷ (acts_of p point index ++ acts_of p point value)
  acts_in p (SetGrid point array row column value place) =
      touch point true (path_at p array (element_of_index row ∷ element_of_index column ∷ [])) place
      ∷ (acts_of p point row ++ (acts_of p point column ++ acts_of p point value))
  acts_in p (If point arms) = acts_in_one p point arms
  acts_in p (While point condition body place) = acts_of p point condition ++ acts_in_all p body
  acts_in p (Return point value) = acts_of_value p point value
  acts_in p (Print point value place) = touch point true console_element place ∷ acts_of p point value
  acts_in p (Call point method args place) = call p point method args place ∷ acts_of_all p point args
  acts_in p (Make point future task args spawned future_place place) =
      make p point future task args spawned future_place place ∷ acts_of_all p point args
  acts_in p (Wait point future join into place) = wait point future join place ∷ []

  pub acts_in_all : Program → Statements → List Act
  acts_in_all p no_more = []
  acts_in_all p (statement first others) = acts_in p first ++ acts_in_all p others

  -- the conditions of an `if` are evaluated at its point
  pub acts_in_one : Program → ℕ → Arms → List Act
  acts_in_one p point (arm condition body others) =
      acts_of p point condition ++ (acts_in_all p body ++ acts_in_one p point others)
  acts_in_one p point (otherwise body) = acts_in_all p body
  acts_in_one p point no_else = []
