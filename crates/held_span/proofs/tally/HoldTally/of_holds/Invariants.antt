use Rattle.std.proofs.Common.{take}
use Rattle.held_span.specs.inner.Tallies.{IsSmall, IsTally}
use Rattle.held_span.proofs.tally.HoldTally.of_holds.Given as goal

-- the holds up to here were counted
abbrev pub invariant-loop-hold : goal.invariant-loop-hold
invariant-loop-hold l = record {
  tally : IsTally l.rows (take l.hold-index l.holds) l.tally;
  small : IsSmall l.hold-index l.tally;
}
