use Rattle.determinism_laws.proofs.DoneTasks.{done_tasks_alike}
use Rattle.determinism_laws.proofs.laws.done_deterministic_tasks_execute_alike.Goals as goal

pub returns : goal.returns
returns c p lim journal run = done_tasks_alike p run.well_formed run.keeps lim journal run.legal
