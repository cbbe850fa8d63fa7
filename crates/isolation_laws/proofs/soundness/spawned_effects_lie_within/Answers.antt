use Rattle.isolation_laws.proofs.soundness.Segments.{segment_spawns}
use Rattle.isolation_laws.proofs.soundness.spawned_effects_lie_within.Goals as goal

pub returns : goal.returns
returns c = segment_spawns
