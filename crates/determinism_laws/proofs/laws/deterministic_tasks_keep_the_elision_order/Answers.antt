use Rattle.determinism_laws.proofs.LeftAlone.{keeps_elision_order}
use Rattle.determinism_laws.proofs.laws.deterministic_tasks_keep_the_elision_order.Goals as goal

pub returns : goal.returns
returns c p lim journal run = keeps_elision_order p run.well_formed run.keeps lim journal run.legal
