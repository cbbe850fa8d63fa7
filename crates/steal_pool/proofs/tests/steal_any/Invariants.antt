use Rattle.std.proofs.Common.{◌≡◌}
use Rattle.steal_pool.proofs.tests.steal_any.Given as goal

abbrev pub invariant-loop-from : goal.invariant-loop-from
invariant-loop-from g l = l.deck.bound ≡ l.initial.deck.bound
