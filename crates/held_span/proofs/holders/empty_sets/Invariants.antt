use Rattle.std.proofs.Common.{◌≡◌, ℕ, length}
use Rattle.held_span.specs.inner.Holding.{IsInSet}
use Rattle.held_span.proofs.holders.empty_sets.Given as goal

-- so many sets, all empty
abbrev pub invariant-loop-at : goal.invariant-loop-at
invariant-loop-at l = record { many : length l.sets ≡ l.at; none : (i t : ℕ) → ¬ IsInSet l.sets i t }
