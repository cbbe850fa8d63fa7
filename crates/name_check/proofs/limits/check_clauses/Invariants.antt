use Rattle.std.proofs.Common.{◌≡◌, drop}
use Rattle.name_check.specs.inner.First.{first_from}
use Rattle.name_check.specs.OtherFailures.{clauses_failures}
use Rattle.name_check.proofs.limits.check_clauses.Given as goal

-- the first so far and the failures of what is left give the first of all
abbrev pub invariant-loop-clause : goal.invariant-loop-clause
invariant-loop-clause l = first_from l.first (clauses_failures (drop l.clause-index l.clauses)) ≡ first_from l.fn.first (clauses_failures l.clauses)
