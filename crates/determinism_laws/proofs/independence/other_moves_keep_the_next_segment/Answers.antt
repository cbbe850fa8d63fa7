use Rattle.determinism_laws.proofs.KeptSegments.{keeps_next_segment}
use Rattle.determinism_laws.proofs.independence.other_moves_keep_the_next_segment.Goals as goal

pub returns : goal.returns
returns c = keeps_next_segment
