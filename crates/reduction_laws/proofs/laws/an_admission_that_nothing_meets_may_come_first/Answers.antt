use Rattle.reduction_laws.proofs.laws.an_admission_that_nothing_meets_may_come_first.Goals as goal
use Rattle.reduction_laws.proofs.AdmitFirst.{admit_first}

pub returns : goal.returns
returns c = admit_first
