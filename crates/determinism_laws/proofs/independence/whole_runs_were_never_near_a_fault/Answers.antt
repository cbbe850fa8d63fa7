use Rattle.determinism_laws.proofs.NearFaults.{finishing_meets_none, no_near_faults}
use Rattle.determinism_laws.proofs.independence.whole_runs_were_never_near_a_fault.Goals as goal

pub returns : goal.returns
returns c = record {
  finishing = finishing_meets_none;
  at_each_place = λ p lim journal run all. no_near_faults p run.well_formed run.keeps lim journal run.legal all;
}
