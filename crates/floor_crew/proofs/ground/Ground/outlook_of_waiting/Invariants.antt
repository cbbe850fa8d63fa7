use Rattle.floor_crew.specs.inner.Lent.{IsOtherOn}
use Rattle.floor_crew.proofs.ground.Ground.outlook_of_waiting.Given as goal

-- the worker's stand stays on this table
abbrev pub invariant-waits : goal.invariant-waits
invariant-waits g l = IsOtherOn g.F.Located.table l.worker
