use Rattle.std.proofs.Common.{◌≡◌, length}
use Rattle.held_span.proofs.lists.empty_lists.Given as goal

-- so many lists
abbrev pub invariant-loop-at : goal.invariant-loop-at
invariant-loop-at l = length l.lists ≡ l.at
