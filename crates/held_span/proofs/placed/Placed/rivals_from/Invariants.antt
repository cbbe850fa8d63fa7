use Rattle.held_span.proofs.Climbing.{IsClimbed, steps_left}
use Rattle.held_span.proofs.placed.Placed.rivals_from.Given as goal

-- the rivals that were passed are found
abbrev pub invariant-climbing : goal.invariant-climbing
invariant-climbing l = IsClimbed l.self l.effect l.node l.at l.rivals

abbrev pub decreases-climbing : goal.decreases-climbing
decreases-climbing l = steps_left l.self.shape l.at
