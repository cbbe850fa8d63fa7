use Rattle.determinism_laws.proofs.Forks.{children_deterministic, waits_for_children}
use Rattle.determinism_laws.proofs.laws.deterministic_tasks_fork_and_join.Goals as goal

pub returns : goal.returns
returns c = record { children = children_deterministic; waits = waits_for_children }
