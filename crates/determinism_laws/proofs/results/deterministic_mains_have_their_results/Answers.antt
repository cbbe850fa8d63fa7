use Rattle.determinism_laws.proofs.results.MainResult.{main_has_its_result}
use Rattle.determinism_laws.proofs.results.deterministic_mains_have_their_results.Goals as goal

pub returns : goal.returns
returns c p lim journal run some = main_has_its_result p run.well_formed run.keeps lim some journal run.legal
