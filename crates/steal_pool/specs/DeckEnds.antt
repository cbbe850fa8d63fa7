-- What contracts see of a `Deck`: its worker's view of all decks.
use Rattle.std.specs.Prelude.{◌≡◌, ℕ, ◌<◌, List, [], ◌∷◌, length, replicate, Some, slice_get, slice_set, slice_index_or}
use Rattle.steal_pool.specs.declared.law.Hand.{Hand}
use Rattle.steal_pool.specs.Hand.{owner_of, guest_of, pushing, taking}
use Rattle.steal_pool.specs.Stands.{Joins, Leaves, WasEmpty}

-- the identity of a deck
abbrev pub DeckId : Type 0
DeckId = ℕ × ℕ

-- the worker's number, which is also the number of its own deck; the bound of all numbers; and for each deck, by its
-- number, its identity and what this worker's pass of it knows
pub record DeckEnds : Type 0 where
  pub number : ℕ
  pub bound : ℕ
  pub decks : List DeckId
  pub hands : List Hand

-- what the worker's pass of a deck knows
abbrev pub hand_at : DeckEnds → ℕ → Hand
hand_at ends deck = slice_index_or ends.hands deck (guest_of ends.bound)

-- the same ends, except that the pass of this deck now knows `known`
abbrev pub with_hand : DeckEnds → ℕ → Hand → DeckEnds
with_hand ends deck known = record ends { hands = slice_set ends.hands deck known }

-- in one step the number joined the worker's own deck at the back, and the worker's pass of the deck records it
abbrev pub Pushed : DeckEnds → DeckEnds → ℕ → Type 0
Pushed old new number =
    let known = pushing (hand_at old old.number) (number ∷ []) in
    (new ≡ with_hand old old.number known) × Joins (hand_at old old.number) (number ∷ []) known

-- in one step the number was the first of this deck and left it, and the worker's pass of the deck records it; the
-- number is below the bound
abbrev pub Taken : DeckEnds → DeckEnds → ℕ → ℕ → Type 0
Taken old new deck number =
    let known = taking (hand_at old deck) (number ∷ []) in
    (new ≡ with_hand old deck known) × Leaves (hand_at old deck) (number ∷ []) known × (number < old.bound)

-- nothing changed, and what the worker's pass of this deck knows does not rule out that the deck is empty
abbrev pub FoundEmpty : DeckEnds → DeckEnds → ℕ → Type 0
FoundEmpty old new deck = (new ≡ old) × WasEmpty (hand_at old deck)

-- the ends of the worker with this number, when the decks are new
abbrev pub new_ends : ℕ → List DeckId → ℕ → DeckEnds
new_ends bound decks number = record {
  number = number;
  bound = bound;
  decks = decks;
  hands = slice_set (replicate (length decks) (guest_of bound)) number (owner_of bound (length decks));
}

-- The decks of this many workers, all new. All workers see the same decks, and every worker may take from every deck.
pub record AreNew (workers bound : ℕ) (all : List DeckEnds) : Type 0 where
  pub decks : List DeckId
  pub count : length decks ≡ workers
  pub many : length all ≡ workers
  pub each : (number : ℕ) → number < workers → slice_get all number ≡ Some (new_ends bound decks number)
