use Rattle.isolation_laws.proofs.running.Covered.{reached_covered}
use Rattle.isolation_laws.proofs.running.Movers.{movers_apart}
use Rattle.isolation_laws.proofs.laws.tasks_that_may_run_do_not_conflict.Goals as goal

pub returns : goal.returns
returns c = record { covered = reached_covered; movers = movers_apart }
