use Rattle.isolation_laws.proofs.soundness.Segments.{segment_declared}
use Rattle.isolation_laws.proofs.soundness.accepted_programs_keep_their_effects.Goals as goal

pub returns : goal.returns
returns c = segment_declared
