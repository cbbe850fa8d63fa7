use Rattle.steal_pool.specs.DeckEnds.{AreNew}
use Rattle.steal_pool.proofs.decks.make_decks.Given as goal

-- the decks so far are new
abbrev pub invariant-loop-number : goal.invariant-loop-number
invariant-loop-number l = AreNew l.number l.bound l.decks.items
