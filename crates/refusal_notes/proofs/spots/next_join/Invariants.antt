use Rattle.std.proofs.Common.{◌≡◌, length}
use Rattle.refusal_notes.specs.Spots.{next_join}
use Rattle.refusal_notes.proofs.spots.next_join.Given as goal

-- what is found in all of them is found in the rest
abbrev pub invariant-loop-spot : goal.invariant-loop-spot
invariant-loop-spot l = next_join l.name l.from l.depth l.rest ≡ next_join l.name l.from 0 l.spots

abbrev pub decreases-loop-spot : goal.decreases-loop-spot
decreases-loop-spot l = length l.rest
