use Rattle.reduction_laws.proofs.laws.a_task_that_may_run_may_run_first.Goals as goal
use Rattle.reduction_laws.proofs.RunFirst.{run_first}

pub returns : goal.returns
returns c = run_first
