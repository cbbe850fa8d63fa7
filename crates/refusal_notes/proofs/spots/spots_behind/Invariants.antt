use Rattle.std.proofs.Common.{◌≡◌, length}
use Rattle.refusal_notes.specs.Spots.{spots_behind}
use Rattle.refusal_notes.proofs.spots.spots_behind.Given as goal

-- what is left of the rest is left of all
abbrev pub invariant-loop-spot : goal.invariant-loop-spot
invariant-loop-spot l = spots_behind l.from l.rest ≡ spots_behind l.from l.spots

abbrev pub decreases-loop-spot : goal.decreases-loop-spot
decreases-loop-spot l = length l.rest
