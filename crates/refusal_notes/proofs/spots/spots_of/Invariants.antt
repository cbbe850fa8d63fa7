use Rattle.std.proofs.Common.{length}
use Rattle.refusal_notes.specs.inner.Cutting.{HasSpots}
use Rattle.refusal_notes.proofs.spots.spots_of.Given as goal

-- the tokens up to the rest
abbrev pub invariant-loop-rest : goal.invariant-loop-rest
invariant-loop-rest l = HasSpots l.text l.spots l.start l.rest

abbrev pub decreases-loop-rest : goal.decreases-loop-rest
decreases-loop-rest l = length l.rest
