use Rattle.std.proofs.Common.{◌≡◌}
use Rattle.summary_comparing.specs.inner.Standing.{own_values}
use Rattle.summary_comparing.proofs.standing.own_values.Given as goal

-- the values of so many parameters
abbrev pub invariant-loop-k : goal.invariant-loop-k
invariant-loop-k l = l.found ≡ own_values l.k
