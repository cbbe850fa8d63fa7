-- The numbering, in the order of the text, of the points, locals and futures of a body, and of the cells of a program.
use Rattle.std.specs.Prelude.{◌≡◌, ℕ, ◌+◌, Bool, List, [], ◌∷◌, ◌++◌, option_to_list}
use Rattle.twe_program.specs.declared.program.CellDecl.{CellDecl}
use Rattle.twe_program.specs.Program.{size_of}
use Rattle.twe_program.specs.Statement.{Statement, Block, Let, Set, SetCell, SetArray, SetGrid, If, While, Return, Print, Call, Make, Wait, Statements, no_more, statement, Arms, arm, otherwise, no_else}

-- the numbers are n, n + 1, and so on
abbrev pub CountUp : ℕ → List ℕ → Type 0
CountUp n [] = Unit {0}
CountUp n (first ∷ others) = (first ≡ n) × CountUp (n + 1) others

-- the number of each declaration's first cell is the sum of the sizes before it
abbrev pub CellsCountUp : ℕ → List CellDecl → Type 0
CellsCountUp n [] = Unit {0}
CellsCountUp n (cell ∷ cells) = (cell.first ≡ n) × CellsCountUp (n + size_of cell.dims) cells

-- the points of statements, in the order of the text
abbrev mutual
  pub points_of : Statement → List ℕ
  points_of (Block point body) = point ∷ points_of_all body
  points_of (Let point var value) = point ∷ []
  points_of (Set point var value) = point ∷ []
  points_of (SetCell point cell value place) = point ∷ []
  points_of (SetArray point array index value place) = point ∷ []
  points_of (SetGrid point array row column value place) = point ∷ []
  points_of (If point arms) = point ∷ points_of_arms arms
  points_of (While point condition body place) = point ∷ points_of_all body
  points_of (Return point value) = point ∷ []
  points_of (Print point value place) = point ∷ []
  points_of (Call point method args place) = point ∷ []
  points_of (Make point future task args spawned future_place place) = point ∷ []
  points_of (Wait point future join into place) = point ∷ []

  pub points_of_all : Statements → List ℕ
  points_of_all no_more = []
  points_of_all (statement first others) = points_of first ++ points_of_all others

  pub points_of_arms : Arms → List ℕ
  points_of_arms no_else = []
  points_of_arms (otherwise body) = points_of_all body
  points_of_arms (arm condition body others) = points_of_all body ++ points_of_arms others

-- the locals that statements declare, in the order of the text
abbrev mutual
  pub locals_of : Statement → List ℕ
  locals_of (Block point body) = locals_of_all body
  locals_of (Let point var value) = var ∷ []
  locals_of (Set point var value) = []
  locals_of (SetCell point cell value place) = []
  locals_of (SetArray point array index value place) = []
  locals_of (SetGrid point array row column value place) = []
  locals_of (If point arms) = locals_of_arms arms
  locals_of (While point condition body place) = locals_of_all body
  locals_of (Return point value) = []
  locals_of (Print point value place) = []
  locals_of (Call point method args place) = []
  locals_of (Make point future task args spawned future_place place) = []
  locals_of (Wait point future join into place) = option_to_list into

  pub locals_of_all : Statements → List ℕ
  locals_of_all no_more = []
  locals_of_all (statement first others) = locals_of first ++ locals_of_all others

  pub locals_of_arms : Arms → List ℕ
  locals_of_arms no_else = []
  locals_of_arms (otherwise body) = locals_of_all body
  locals_of_arms (arm condition body others) = locals_of_all body ++ locals_of_arms others

-- a future that a statement declares: its number, the declaration of its task, and whether the task is spawned
pub record Declared : Type 0 where
  pub future : ℕ
  pub task : ℕ
  pub spawned : Bool

-- the futures that statements declare, in the order of the text
abbrev mutual
  pub futures_of : Statement → List Declared
  futures_of (Block point body) = futures_of_all body
  futures_of (Let point var value) = []
  futures_of (Set point var value) = []
  futures_of (SetCell point cell value place) = []
  futures_of (SetArray point array index value place) = []
  futures_of (SetGrid point array row column value place) = []
  futures_of (If point arms) = futures_of_arms arms
  futures_of (While point condition body place) = futures_of_all body
  futures_of (Return point value) = []
  futures_of (Print point value place) = []
  futures_of (Call point method args place) = []
  futures_of (Make point future task args spawned future_place place) = record {
    future = future;
    task = task;
    spawned = spawned;
  } ∷ []
  futures_of (Wait point future join into place) = []

  pub futures_of_all : Statements → List Declared
  futures_of_all no_more = []
  futures_of_all (statement first others) = futures_of first ++ futures_of_all others

  pub futures_of_arms : Arms → List Declared
  futures_of_arms no_else = []
  futures_of_arms (otherwise body) = futures_of_all body
  futures_of_arms (arm condition body others) = futures_of_all body ++ futures_of_arms others
