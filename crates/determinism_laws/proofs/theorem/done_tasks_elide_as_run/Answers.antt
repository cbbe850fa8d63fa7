use Rattle.determinism_laws.proofs.theorem.Elided.{done_tasks_as_run}
use Rattle.determinism_laws.proofs.theorem.done_tasks_elide_as_run.Goals as goal

pub returns : goal.returns
returns c p lim journal run = done_tasks_as_run p run.well_formed run.keeps lim journal run.legal
