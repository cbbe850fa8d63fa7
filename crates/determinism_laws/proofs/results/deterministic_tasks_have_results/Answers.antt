use Rattle.determinism_laws.proofs.results.Results.{tasks_have_results}
use Rattle.determinism_laws.proofs.results.deterministic_tasks_have_results.Goals as goal

pub returns : goal.returns
returns c p lim journal run some = tasks_have_results p run.well_formed run.keeps lim some journal run.legal
