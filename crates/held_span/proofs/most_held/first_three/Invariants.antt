use Rattle.std.proofs.Common.{◌≡◌, take}
use Rattle.held_span.specs.inner.Ranks.{ranked}
use Rattle.held_span.proofs.most_held.first_three.Given as goal

-- of the pairs up to here the first three are there
abbrev pub invariant-loop-pair : goal.invariant-loop-pair
invariant-loop-pair l = l.most.items ≡ take 3 (ranked (take l.pair-index l.pairs))
