use Rattle.determinism_laws.proofs.theorem.Elided.{done_tasks_elided}
use Rattle.determinism_laws.proofs.theorem.done_tasks_are_elided.Goals as goal

pub returns : goal.returns
returns c p lim journal run = done_tasks_elided p run.well_formed run.keeps lim journal run.legal
