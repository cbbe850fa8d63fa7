use Rattle.isolation_laws.proofs.journals.Journals.{runs_isolated, runs_within}
use Rattle.isolation_laws.proofs.running.Covered.{runs_covered}
use Rattle.isolation_laws.proofs.laws.accepted_runs_are_isolated.Goals as goal

pub returns : goal.returns
returns c = record { isolated = runs_isolated; within = runs_within; covered = runs_covered }
