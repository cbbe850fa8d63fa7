use Rattle.determinism_laws.proofs.EndedRuns.{ended_have_one_result, ended_is_done}
use Rattle.determinism_laws.proofs.endings.ended_runs_have_one_result.Goals as goal

pub returns : goal.returns
returns c = record {
  done = ended_is_done;
  one_result = λ p lim one other run run_too flag within. ended_have_one_result p run.well_formed run.keeps flag lim within one other run.legal run_too.legal;
}
