use Rattle.determinism_laws.proofs.EndedAlike.{finishes_too, no_fault}
use Rattle.determinism_laws.proofs.finishing.runs_finish_if_one_does.Goals as goal

pub returns : goal.returns
returns c = record {
  no_fault = λ p lim journal run flag some. no_fault p run.well_formed run.keeps flag lim some journal run.legal;
  done = λ p wf keeps flag lim within some st. finishes_too p wf keeps flag lim within some st;
}
