use Rattle.std.proofs.Common.{◌-◌, ◌+◌, length}
use Rattle.flat_sched.specs.inner.Groups.{AreKept}
use Rattle.flat_sched.proofs.groups.reach.Given as goal

abbrev pub invariant-reaching : goal.invariant-reaching
invariant-reaching l = record { kept : AreKept l.initial.groups l.groups; back : AreKept l.groups l.initial.groups }

abbrev pub decreases-reaching : goal.decreases-reaching
decreases-reaching l = l.at + 1 - length l.groups
