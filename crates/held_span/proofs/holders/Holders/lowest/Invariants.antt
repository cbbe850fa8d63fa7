use Rattle.std.proofs.Common.{take}
use Rattle.held_span.specs.inner.Holding.{HoldsOne, IsLowestOf}
use Rattle.held_span.proofs.holders.Holders.lowest.Given as goal

-- the lowest of those that leave one of the marks up to here
abbrev pub invariant-loop-mark : goal.invariant-loop-mark
invariant-loop-mark l = IsLowestOf (HoldsOne l.self (take l.mark-index l.marks)) l.lowest
