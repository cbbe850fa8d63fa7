-- What contracts inside the crate see of one end of a deck, and how a worker's view consists of such ends.
use Rattle.std.specs.Prelude.{◌≡◌, ℕ, ◌+◌, ◌<◌, ◌≤◌, ◌⊎◌, List, All, length, map}
use Rattle.std.specs.List.{insert}
use Rattle.steal_pool.specs.declared.law.Hand.{Hand}
use Rattle.steal_pool.specs.DeckEnds.{DeckId, DeckEnds}

-- the end of a deck's owner, or of a thief: the identity of the deck, and what the pass that uses it knows
pub record DeckEnd : Type 0 where
  pub deck : DeckId
  pub hand : Hand

-- the worker's own end is inserted at its number, among its ends of the others' decks
abbrev pub ends_of : ℕ → DeckEnd → List DeckEnd → DeckEnds
ends_of number own others = record {
  number = number;
  bound = own.hand.bound;
  decks = insert (map (λ other. other.deck) others) number own.deck;
  hands = insert (map (λ other. other.hand) others) number own.hand;
}

-- the worker's number is the number of a deck, and all its passes know the same bound
abbrev pub AgreeOnBound : ℕ → DeckEnd → List DeckEnd → Type 0
AgreeOnBound number own others = (number ≤ length others) × All (λ other. other.hand.bound ≡ own.hand.bound) others

-- the end of the deck with this number has this index among the ends without the worker's own
abbrev pub IsAt : ℕ → ℕ → ℕ → Type 0
IsAt number deck place = ((deck < number) × (deck ≡ place)) ⊎ ((number < deck) × (deck ≡ place + 1))
