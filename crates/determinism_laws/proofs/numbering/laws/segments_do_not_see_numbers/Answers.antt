use Rattle.determinism_laws.proofs.numbering.Renumbered.{same_segment}
use Rattle.determinism_laws.proofs.numbering.laws.segments_do_not_see_numbers.Goals as goal

pub returns : goal.returns
returns c = same_segment
