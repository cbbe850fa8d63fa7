use Rattle.std.proofs.Common.{◌≡◌}
use Rattle.twe_rounds.proofs.own_deck.steal_in_turn.Given as goal

-- the bound of the numbers stays
abbrev pub invariant-loop-step : goal.invariant-loop-step
invariant-loop-step g l = l.deck.bound ≡ l.initial.deck.bound
