-- Room for numbers of 32 bits.
use Rattle.std.specs.Prelude.{ℕ, ◌+◌, ◌<◌, ◌^◌}
use Rattle.name_check.specs.declared.scope.BodyScope.{BodyScope}

-- `more` further statements, locals and futures can be numbered
pub record HasRoom (here : BodyScope) (more : ℕ) : Type 0 where
  pub points : here.points + more < 2 ^ 32
  pub vars : here.vars + more < 2 ^ 32
  pub futures : here.futures + more < 2 ^ 32
