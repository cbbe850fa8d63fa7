use Rattle.std.proofs.Common.{take}
use Rattle.summary_comparing.specs.Chained.{AreEach, IsSpawnPlace}
use Rattle.summary_comparing.proofs.spawned.spawn_places.Given as goal

-- the effects so far have theirs
abbrev pub invariant-loop-effect : goal.invariant-loop-effect
invariant-loop-effect l = AreEach (IsSpawnPlace l.p l.decl) (take l.effect-index l.effects) l.places
