use Rattle.std.proofs.Common.{◌≡◌, drop}
use Rattle.name_check.specs.inner.First.{first_from}
use Rattle.name_check.specs.OtherFailures.{paths_failures}
use Rattle.name_check.proofs.limits.check_paths.Given as goal

-- the first so far and the failures of what is left give the first of all
abbrev pub invariant-loop-path : goal.invariant-loop-path
invariant-loop-path l = first_from l.first (paths_failures (drop l.path-index l.paths)) ≡ first_from l.fn.first (paths_failures l.paths)
