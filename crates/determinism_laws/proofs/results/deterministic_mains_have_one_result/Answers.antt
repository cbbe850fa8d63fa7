use Rattle.determinism_laws.proofs.results.MainResult.{mains_have_one_result}
use Rattle.determinism_laws.proofs.results.deterministic_mains_have_one_result.Goals as goal

pub returns : goal.returns
returns c p lim one other run run_too flag some = mains_have_one_result p run.well_formed run.keeps flag lim some one other run.legal run_too.legal
