use Rattle.std.proofs.Common.{◌≡◌}
use Rattle.summary_comparing.specs.inner.Standing.{callee_values}
use Rattle.summary_comparing.proofs.standing.callee_values.Given as goal

-- the values of so many parameters
abbrev pub invariant-loop-k : goal.invariant-loop-k
invariant-loop-k l = l.found ≡ callee_values l.values l.targets l.args l.k
