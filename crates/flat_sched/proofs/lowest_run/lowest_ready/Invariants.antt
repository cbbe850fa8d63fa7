use Rattle.std.proofs.Common.{◌-◌}
use Rattle.flat_sched.specs.inner.Books.{KeepsFrom}
use Rattle.flat_sched.proofs.lowest_run.lowest_ready.Given as goal

-- those below the number were looked at
abbrev pub invariant-looking : goal.invariant-looking
invariant-looking l = KeepsFrom l.from l.st l.books

abbrev pub decreases-looking : goal.decreases-looking
decreases-looking l = 4294967296 - l.from
