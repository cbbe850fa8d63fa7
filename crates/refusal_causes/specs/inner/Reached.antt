-- The ways to a point within statements, from those before them.
use Rattle.std.specs.Prelude.{ℕ, ◌==◌, if◌then◌else◌}
use Rattle.twe_program.specs.declared.program.Body.{Body}
use Rattle.twe_program.specs.Statement.{Statement, Block, If, While, Return, Statements, no_more, statement, Arms, arm, otherwise, no_else}
use Rattle.cover_flow.specs.ControlPath.{point_of, end_of}
use Rattle.refusal_causes.specs.declared.ways.OutWays.{OutWays}
use Rattle.refusal_causes.specs.inner.Traced.{nowhere, start, either, stepped, traced, traced_all}

-- the shorter ones of the ways found and of these, if these are at the point `to`
abbrev pub noted : ℕ → ℕ → OutWays → OutWays → OutWays
noted to at ways found = if at == to then either found ways else found

-- the ways found, and those that come to the point `to` within the statement, or by a return at the end
abbrev mutual
  pub reached : ℕ → ℕ → ℕ → Statement → OutWays → OutWays → OutWays
  reached f to end (Block point body) ways found = reached_all f to end body ways (noted to point ways found)
  reached f to end (If point arms) ways found = reached_one f to end arms ways (noted to point ways found)
  reached f to end (While point condition body place) ways found =
      let head = traced f (While point condition body place) ways in
      reached_all f to end body (stepped f (While point condition body place) head) (noted to point head found)
  reached f to end (Return point value) ways found = noted to end ways (noted to point ways found)
  reached f to end s ways found = noted to (point_of s) ways found

  pub reached_all : ℕ → ℕ → ℕ → Statements → OutWays → OutWays → OutWays
  reached_all f to end no_more ways found = found
  reached_all f to end (statement first others) ways found =
      reached_all f to end others (traced f first ways) (reached f to end first ways found)

  pub reached_one : ℕ → ℕ → ℕ → Arms → OutWays → OutWays → OutWays
  reached_one f to end (arm condition body others) ways found =
      reached_one f to end others ways (reached_all f to end body ways found)
  reached_one f to end (otherwise body) ways found = reached_all f to end body ways found
  reached_one f to end no_else ways found = found

-- the ways to the point of a body
abbrev pub found_in : Body → ℕ → ℕ → OutWays
found_in body f to =
    noted to (end_of body) (traced_all f body.block start) (reached_all f to (end_of body) body.block start nowhere)
