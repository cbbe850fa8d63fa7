-- Futures: each wait is for a task that was made before.
use Rattle.std.specs.Prelude.{ℕ, Bool, false, ◌||◌, nat_eq, IsTrue}
use Rattle.twe_program.specs.Statement.{Statement, Block, Let, Set, SetCell, SetArray, SetGrid, If, While, Return, Print, Call, Make, Wait, Statements, no_more, statement, Arms, arm, otherwise, no_else}

-- the futures whose task is made, after a statement
abbrev pub made_after : (ℕ → Bool) → Statement → ℕ → Bool
made_after made (Make point future task args spawned future_place place) f = nat_eq f future || made f
made_after made _ f = made f

-- each wait is for a future whose task was made before: one of these, or one made before the wait in the same block or
-- in a block around it
abbrev mutual
  pub WaitsFollow : (ℕ → Bool) → Statement → Type 0
  WaitsFollow made (Block point body) = AllWaitsFollow made body
  WaitsFollow made (Let point var value) = Unit {0}
  WaitsFollow made (Set point var value) = Unit {0}
  WaitsFollow made (SetCell point cell value place) = Unit {0}
  WaitsFollow made (SetArray point array index value place) = Unit {0}
  WaitsFollow made (SetGrid point array row column value place) = Unit {0}
  WaitsFollow made (If point arms) = ArmsWaitFollow made arms
  WaitsFollow made (While point condition body place) = AllWaitsFollow made body
  WaitsFollow made (Return point value) = Unit {0}
  WaitsFollow made (Print point value place) = Unit {0}
  WaitsFollow made (Call point method args place) = Unit {0}
  WaitsFollow made (Make point future task args spawned future_place place) = Unit {0}
  WaitsFollow made (Wait point future join into place) = IsTrue (made future)

  pub AllWaitsFollow : (ℕ → Bool) → Statements → Type 0
  AllWaitsFollow made no_more = Unit {0}
  AllWaitsFollow made (statement first others) = WaitsFollow made first × AllWaitsFollow (made_after made first) others

  pub ArmsWaitFollow : (ℕ → Bool) → Arms → Type 0
  ArmsWaitFollow made no_else = Unit {0}
  ArmsWaitFollow made (otherwise body) = AllWaitsFollow made body
  ArmsWaitFollow made (arm condition body others) = AllWaitsFollow made body × ArmsWaitFollow made others

-- the same in a whole body, at whose beginning no task is made
abbrev pub WaitsFollowMakes : Statements → Type 0
WaitsFollowMakes body = AllWaitsFollow (λ f. false) body
