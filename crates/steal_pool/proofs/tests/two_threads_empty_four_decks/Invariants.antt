use Rattle.std.proofs.Common.{◌≡◌}
use Rattle.std.specs.List.{All}
use Rattle.steal_pool.specs.DeckEnds.{DeckEnds}
use Rattle.steal_pool.proofs.tests.two_threads_empty_four_decks.Given as goal

abbrev pub invariant-loop : goal.invariant-loop
invariant-loop g l = All (λ (ends : DeckEnds). ends.bound ≡ 4000) l.decks
