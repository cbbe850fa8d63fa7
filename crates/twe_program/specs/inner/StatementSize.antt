-- The depth of a statement. Each of its parts is less deep.
use Rattle.std.specs.Prelude.{ℕ, ◌+◌, max}
use Rattle.twe_program.specs.Statement.{Statement, Block, Let, Set, SetCell, SetArray, SetGrid, If, While, Return, Print, Call, Make, Wait, Statements, no_more, statement, Arms, arm, otherwise, no_else}

-- one more than the depth of the deepest part, and 0 without parts; blocks and arms are parts, expressions are not
abbrev mutual
  pub depth : Statement → ℕ
  depth (Block point body) = depth_of_all body + 1
  depth (Let point var value) = 0
  depth (Set point var value) = 0
  depth (SetCell point cell value place) = 0
  depth (SetArray point array index value place) = 0
  depth (SetGrid point array row column value place) = 0
  depth (If point arms) = depth_of_arms arms + 1
  depth (While point condition body place) = depth_of_all body + 1
  depth (Return point value) = 0
  depth (Print point value place) = 0
  depth (Call point method args place) = 0
  depth (Make point future task args spawned future_place place) = 0
  depth (Wait point future join into place) = 0

  pub depth_of_all : Statements → ℕ
  depth_of_all no_more = 0
  depth_of_all (statement first others) = max (depth first + 1) (depth_of_all others)

  pub depth_of_arms : Arms → ℕ
  depth_of_arms no_else = 0
  depth_of_arms (otherwise body) = depth_of_all body + 1
  depth_of_arms (arm condition body others) = max (depth_of_all body + 1) (depth_of_arms others)
