use Rattle.determinism_laws.proofs.EndedRuns.{ended_has_fault, never_done}
use Rattle.determinism_laws.proofs.endings.runs_of_a_faulty_main_end_with_a_fault.Goals as goal

pub returns : goal.returns
returns c = record {
  never_done = λ p lim journal run flag within kind place faults. never_done p run.well_formed run.keeps flag lim within kind place faults journal run.legal;
  fault = ended_has_fault;
}
