use Rattle.isolation_laws.proofs.soundness.Given.{given_runs}
use Rattle.isolation_laws.proofs.soundness.Segments.{entry_runs, segment_later, segment_makes}
use Rattle.isolation_laws.proofs.soundness.arguments_stay.Goals as goal

pub returns : goal.returns
returns c = record { entry = entry_runs; given = given_runs; later = segment_later; made = segment_makes }
