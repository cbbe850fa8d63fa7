use Rattle.isolation_laws.proofs.soundness.Segments.{main_declared}
use Rattle.isolation_laws.proofs.soundness.main_keeps_to_its_summary.Goals as goal

pub returns : goal.returns
returns c = main_declared
