use Rattle.std.proofs.Common.{length}
use mathlib.Core.List.{IsPrefix}
use Rattle.floor_crew.specs.inner.Lent.{HasParts, IsMainOn}
use Rattle.floor_crew.proofs.splitting.join_all.Given as goal

-- the stands of the hands that are left are out, and the parts go on from those that there were
abbrev pub invariant-loop-hand : goal.invariant-loop-hand
invariant-loop-hand g l = IsMainOn g.F.Located.table l.stand (length l.hands.items) × HasParts l.stand l.parts × IsPrefix l.fn.parts l.parts

abbrev pub decreases-loop-hand : goal.decreases-loop-hand
decreases-loop-hand g l = length l.hands.items
