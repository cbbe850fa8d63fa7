use Rattle.determinism_laws.proofs.CountedResults.{counted_results}
use Rattle.determinism_laws.proofs.executions.results_count_the_tasks_below.Goals as goal

pub returns : goal.returns
returns c p lim journal run some = counted_results p run.well_formed run.keeps lim some journal run.legal
