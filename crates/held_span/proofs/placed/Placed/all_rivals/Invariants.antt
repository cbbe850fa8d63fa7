use Rattle.held_span.proofs.Rivalry.{HaveRivals}
use Rattle.held_span.proofs.placed.Placed.all_rivals.Given as goal

-- the effects up to here have their rivals
abbrev pub invariant-loop-effect : goal.invariant-loop-effect
invariant-loop-effect l = HaveRivals l.self l.effect-index l.lists
