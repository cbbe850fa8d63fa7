-- Parameters keep their values: a body assigns only to its locals, whose numbers come after those of the parameters.
use Rattle.std.specs.Prelude.{ℕ, ◌≤◌}
use Rattle.twe_program.specs.Statement.{Statement, Block, Let, Set, SetCell, SetArray, SetGrid, If, While, Return, Print, Call, Make, Wait, Statements, no_more, statement, Arms, arm, otherwise, no_else}

-- each assignment is to a variable whose number is at least n
abbrev mutual
  pub SetsFrom : ℕ → Statement → Type 0
  SetsFrom n (Block point body) = AllSetFrom n body
  SetsFrom n (Let point var value) = Unit {0}
  SetsFrom n (Set point var value) = n ≤ var
  SetsFrom n (SetCell point cell value place) = Unit {0}
  SetsFrom n (SetArray point array index value place) = Unit {0}
  SetsFrom n (SetGrid point array row column value place) = Unit {0}
  SetsFrom n (If point arms) = ArmsSetFrom n arms
  SetsFrom n (While point condition body place) = AllSetFrom n body
  SetsFrom n (Return point value) = Unit {0}
  SetsFrom n (Print point value place) = Unit {0}
  SetsFrom n (Call point method args place) = Unit {0}
  SetsFrom n (Make point future task args spawned future_place place) = Unit {0}
  SetsFrom n (Wait point future join into place) = Unit {0}

  pub AllSetFrom : ℕ → Statements → Type 0
  AllSetFrom n no_more = Unit {0}
  AllSetFrom n (statement first others) = SetsFrom n first × AllSetFrom n others

  pub ArmsSetFrom : ℕ → Arms → Type 0
  ArmsSetFrom n no_else = Unit {0}
  ArmsSetFrom n (otherwise body) = AllSetFrom n body
  ArmsSetFrom n (arm condition body others) = AllSetFrom n body × ArmsSetFrom n others
