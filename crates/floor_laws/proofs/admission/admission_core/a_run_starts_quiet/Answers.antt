-- The only task is neither enabled nor still to be placed, and there is no record.
use Rattle.floor_laws.proofs.admission.admission_core.QuietLemmas.{start_quiet}
use Rattle.floor_laws.proofs.admission.admission_core.a_run_starts_quiet.Goals as goal

pub returns : goal.returns
returns c = start_quiet
