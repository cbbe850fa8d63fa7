-- It follows from the invariant.
use Rattle.floor_laws.proofs.admission.admission_core.EventsKeep.{reached_kept}
use Rattle.floor_laws.proofs.admission.admission_core.AdmissionLemmas.{may_be_admitted}
use Rattle.floor_laws.proofs.admission.admission_core.a_placed_task_may_be_admitted.Goals as goal

pub returns : goal.returns
returns c = λ nodes s t task tree reached is made records.
    may_be_admitted nodes tree s (reached_kept nodes s tree reached) t task is made records
