use Rattle.span_profile.proofs.OneAdvice.{one_tasks, one_times, one_works}
use Rattle.span_profile.proofs.OneReason.{one_steps}
use Rattle.span_profile.proofs.laws.one_advice.Goals as goal

pub returns-clause-works : goal.returns-clause-works
returns-clause-works c = one_works

pub returns-clause-tasks : goal.returns-clause-tasks
returns-clause-tasks c = one_tasks

pub returns-clause-times : goal.returns-clause-times
returns-clause-times c = one_times

pub returns-clause-steps : goal.returns-clause-steps
returns-clause-steps c = one_steps
