use Rattle.std.proofs.Common.{◌≡◌, take, drop, []}
use Rattle.name_check.specs.inner.First.{first_from}
use Rattle.name_check.specs.inner.Whole.{again_failures}
use Rattle.name_check.proofs.names.Globals.check_again.Given as goal

-- the first so far and what is left give the first of all
abbrev pub invariant-loop-index : goal.invariant-loop-index
invariant-loop-index l = first_from l.first (again_failures (take l.index l.self) (drop l.index l.self)) ≡ first_from l.fn.first (again_failures [] l.self)
