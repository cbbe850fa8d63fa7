-- Nothing is said of a hint.
use Rattle.std.proofs.Common.{◌+◌, ◌-◌, length}
use Rattle.summary_comparing.proofs.first_calls.FirstCalls.first_number.Given as goal

abbrev pub invariant-loop-arg : goal.invariant-loop-arg
invariant-loop-arg l = Unit {0}

abbrev pub invariant-keeping : goal.invariant-keeping
invariant-keeping l = Unit {0}

abbrev pub decreases-keeping : goal.decreases-keeping
decreases-keeping l = l.node + 1 - length l.self.numbers
