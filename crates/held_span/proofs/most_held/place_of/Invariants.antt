use Rattle.std.proofs.Common.{◌≡◌, ◌+◌, drop}
use Rattle.held_span.specs.inner.Ranks.{place_of}
use Rattle.held_span.proofs.most_held.place_of.Given as goal

-- the pairs up to here held no shorter
abbrev pub invariant-loop-at : goal.invariant-loop-at
invariant-loop-at l = l.at + place_of (drop l.at l.pairs) l.time ≡ place_of l.pairs l.time
