-- Making decks one after another.
use Rattle.std.specs.Prelude.{ℕ, [], ◌∷◌, ◌++◌, slice_set, slice_index_or}
use Rattle.steal_pool.specs.Hand.{guest_of, sharing}
use Rattle.steal_pool.specs.DeckEnds.{DeckId, DeckEnds, hand_at}
use Rattle.steal_pool.specs.inner.Single.{DeckEnd}

-- a worker's ends after one more deck is made: it may take from the new deck, and the new worker may take from its deck
abbrev pub met : DeckId → ℕ → DeckEnds → DeckEnds
met deck bound ends = record ends {
  decks = ends.decks ++ deck ∷ [];
  hands = slice_set ends.hands ends.number (sharing (hand_at ends ends.number)) ++ guest_of bound ∷ [];
}

-- the end that a new worker gets of an earlier worker's deck
abbrev pub end_on : ℕ → DeckEnds → DeckEnd
end_on bound ends = record { deck = slice_index_or ends.decks ends.number (0, 0); hand = guest_of bound }
