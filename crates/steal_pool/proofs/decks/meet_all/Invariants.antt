use Rattle.std.proofs.Common.{◌≡◌, ◌+◌, ◌++◌, map, take, drop}
use Rattle.steal_pool.specs.inner.Making.{met, end_on}
use Rattle.steal_pool.proofs.decks.meet_all.Given as goal

-- the workers so far have met the new deck, and the others have not
abbrev pub invariant-loop-deck : goal.invariant-loop-deck
invariant-loop-deck l =
    let before = l.initial.own in
    record {
      decks : l.decks ≡ map (met before.deck before.hand.bound) (take l.deck-index l.initial.decks) ++ drop l.deck-index l.initial.decks;
      others : l.others.items ≡ map (end_on before.hand.bound) (take l.deck-index l.initial.decks);
      same : l.own.deck ≡ before.deck;
      shared : l.own.hand ≡ record before.hand { takers = before.hand.takers + l.deck-index };
    }
