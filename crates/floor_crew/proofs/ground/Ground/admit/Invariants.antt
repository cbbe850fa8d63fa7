use Rattle.floor_crew.specs.inner.Lent.{IsOtherOn}
use Rattle.floor_crew.proofs.ground.Ground.admit.Given as goal

-- the worker's stand stays on this table
abbrev pub invariant-tries : goal.invariant-tries
invariant-tries g l = IsOtherOn g.F.Located.table l.worker
