-- Which bodies can't end without a `return`.
use Rattle.std.specs.Prelude.{Bool, true, false, ◌&&◌, ◌||◌}
use Rattle.twe_ast.specs.Expression.{Expression, expression, Truth}
use Rattle.twe_ast.specs.Statement.{Statement, Block, If, While, Return, Statements, end_of_block, statement, Arms, arm, otherwise, no_else}
use Rattle.twe_base.specs.declared.place.Place.{Place}

-- the expression is the literal `true`
abbrev pub is_literal_true : Expression → Bool
is_literal_true (expression place (Truth true)) = true
is_literal_true _ = false

-- A statement ends the body if it is a `return`, a block of which some statement ends it, an `if` with a last `else` all of
-- whose blocks end it, or a `while` whose condition is the literal `true`.
abbrev mutual
  pub always_returns : Statement → Bool
  always_returns (Block body) = one_ends body
  always_returns (If arms) = all_end arms
  always_returns (While place condition body) = is_literal_true condition
  always_returns (Return place value) = true
  always_returns _ = false

  pub one_ends : Statements → Bool
  one_ends (end_of_block close) = false
  one_ends (statement first others) = always_returns first || one_ends others

  pub all_end : Arms → Bool
  all_end (arm condition body others) = one_ends body && all_end others
  all_end (otherwise body) = one_ends body
  all_end no_else = false

-- the place of the brace that closes a block
abbrev pub close_of : Statements → Place
close_of (end_of_block close) = close
close_of (statement first others) = close_of others
