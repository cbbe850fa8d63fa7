use Rattle.std.proofs.Common.{◌≡◌, ◌<◌, ◌+◌, ◌++◌, ℕ, List, Some, Option, None, length, reverse}
use Rattle.span_profile.specs.heaviest_chain.inner.Following.{Follows}
use Rattle.span_profile.proofs.heaviest_chain.chains.chain_to.Given as goal

-- how far back the walk still has to go at most
abbrev steps_left : Option ℕ → ℕ
steps_left None = 0
steps_left (Some node) = node + 1

-- what follows from here, after what was followed already, follows from the last node
abbrev pub invariant-following : goal.invariant-following
invariant-following l = record {
  there : (node : ℕ) → l.at ≡ Some node → node < length l.bests;
  follows : (others : List ℕ) → Follows l.bests l.at others → Follows l.bests (Some l.last) (reverse l.chain ++ others);
}

abbrev pub decreases-following : goal.decreases-following
decreases-following l = steps_left l.at
