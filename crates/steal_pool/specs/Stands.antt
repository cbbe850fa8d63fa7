-- The invariant of a deck between any two steps, and what one step does. A deck is a list of numbers; the first comes
-- out next. Pass 0 is the owner's, and only the owner pushes. A contract sees only what a pass knows, and not the deck.
-- So the relations at the end say that some states of the deck and of all passes fit the invariant and this knowledge.
-- They do not say which state the deck was in.
use Rattle.std.specs.Prelude.{◌≡◌, ◌≢◌, ℕ, ◌+◌, ◌<◌, ◌≤◌, true, false, if◌then◌else◌, List, [], ◌∷◌, ◌++◌, length, map, All, count_by, sum_by, ◌==◌, Some, slice_get, slice_set}
use Rattle.steal_pool.specs.declared.law.Hand.{Hand}
use Rattle.steal_pool.specs.Hand.{pushing, taking}

-- how often a number occurs in a list
abbrev pub times : ℕ → List ℕ → ℕ
times number numbers = count_by (λ other. other == number) numbers

-- the pass that took a number, and the number
abbrev pub Departure : Type 0
Departure = ℕ × ℕ

-- the numbers that left the deck, in order
abbrev pub numbers_of : List Departure → List ℕ
numbers_of gone = map (λ departure. departure.1) gone

-- the numbers among them that this pass took
abbrev pub taken_by : ℕ → List Departure → List ℕ
taken_by pass [] = []
taken_by pass (departure ∷ gone) = if departure.0 == pass then departure.1 ∷ taken_by pass gone else taken_by pass gone

-- What a pass knows is true: the numbers that it took, and a bound of all numbers. Only the owner pushes, and it knows
-- how many passes may take. A pass that may not take has taken nothing.
pub record Knows (owner : Hand) (gone : List Departure) (pass : ℕ) (known : Hand) : Type 0 where
  pub took : known.took ≡ taken_by pass gone
  pub bound : owner.bound ≤ known.bound
  pub pushed : pass ≢ 0 → known.pushed ≡ []
  pub takers : pass ≢ 0 → known.takers ≡ 0
  pub spent : known.takes ≡ false → known.took ≡ []

-- the invariant of a deck: it relates the numbers in the deck to what the passes know
pub record Stands (numbers : List ℕ) (passes : List Hand) : Type 0 where
  pub owner : Hand
  pub owner_is : slice_get passes 0 ≡ Some owner
  pub owner_takes : owner.takes ≡ true
  pub takers : count_by (λ known. known.takes) passes ≡ owner.takers
  -- first in, first out: the numbers that the owner pushed are those that have left, followed by those in the deck
  pub gone : List Departure
  pub in_order : owner.pushed ≡ numbers_of gone ++ numbers
  pub each : (pass : ℕ) (known : Hand) → slice_get passes pass ≡ Some known → Knows owner gone pass known
  pub no_others : (pass : ℕ) → length passes ≤ pass → taken_by pass gone ≡ []
  -- each number was pushed as often as it occurs in the deck and in the lists of numbers taken, together
  pub each_once : (number : ℕ)
      → times number owner.pushed ≡ times number numbers + sum_by (λ known. times number known.took) passes
  -- every number that was ever in the deck is below the bound
  pub below : All (λ number. number < owner.bound) owner.pushed

-- One step of a pass that knew `old` before it and knows `new` after it. The deck held `before` and then holds `after`,
-- and the invariant holds both times. What the other passes know does not change.
pub record DeckSteps (before after : List ℕ) (old new : Hand) : Type 0 where
  pub passes : List Hand
  pub pass : ℕ
  pub mine : slice_get passes pass ≡ Some old
  pub was : Stands before passes
  pub is : Stands after (slice_set passes pass new)

-- in one step these numbers joined the deck at the back, and the pass records them
abbrev pub Joins : Hand → List ℕ → Hand → Type 0
Joins old numbers new = (new ≡ pushing old numbers) × ((held : List ℕ) × DeckSteps held (held ++ numbers) old new)

-- in one step these numbers were the first of the deck and left it, and the pass records them
abbrev pub Leaves : Hand → List ℕ → Hand → Type 0
Leaves old numbers new = (new ≡ taking old numbers) × ((held : List ℕ) × DeckSteps (numbers ++ held) held old new)

-- What a pass knows does not rule out that its deck is empty: there are passes, one of which knows this, for which the
-- invariant holds of the empty deck.
pub record WasEmpty (known : Hand) : Type 0 where
  pub passes : List Hand
  pub pass : ℕ
  pub mine : slice_get passes pass ≡ Some known
  pub was : Stands [] passes
