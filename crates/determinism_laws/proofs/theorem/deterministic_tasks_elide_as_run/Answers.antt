use Rattle.determinism_laws.proofs.theorem.Elided.{deterministic_tasks_as_run}
use Rattle.determinism_laws.proofs.theorem.deterministic_tasks_elide_as_run.Goals as goal

pub returns : goal.returns
returns c p lim journal run = deterministic_tasks_as_run p run.well_formed run.keeps lim journal run.legal
