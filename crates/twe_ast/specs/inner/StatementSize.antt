-- The depth of a statement, which is greater than that of each of its parts.
use Rattle.std.specs.Prelude.{ℕ, ◌+◌, max}
use Rattle.twe_ast.specs.Statement.{Statement, Block, Let, Set, SetArray, SetGrid, If, While, Return, Print, Call, Make, Wait, LetWait, Statements, end_of_block, statement, Arms, arm, otherwise, no_else}

-- one more than the depth of the deepest part, and 0 without parts; blocks and arms are parts, expressions are not
abbrev mutual
  pub depth : Statement → ℕ
  depth (Block body) = depth_of_all body + 1
  depth (Let is_final local_type name value) = 0
  depth (Set name value) = 0
  depth (SetArray array index value) = 0
  depth (SetGrid array row column value) = 0
  depth (If arms) = depth_of_arms arms + 1
  depth (While place condition body) = depth_of_all body + 1
  depth (Return place value) = 0
  depth (Print place value) = 0
  depth (Call method args) = 0
  depth (Make future task spawned args) = 0
  depth (Wait wait) = 0
  depth (LetWait is_final name wait) = 0

  pub depth_of_all : Statements → ℕ
  depth_of_all (end_of_block close) = 0
  depth_of_all (statement first others) = max (depth first + 1) (depth_of_all others)

  pub depth_of_arms : Arms → ℕ
  depth_of_arms no_else = 0
  depth_of_arms (otherwise body) = depth_of_all body + 1
  depth_of_arms (arm condition body others) = max (depth_of_all body + 1) (depth_of_arms others)
