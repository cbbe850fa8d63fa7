use Rattle.determinism_laws.proofs.Listing.{segments_can_be_listed}
use Rattle.determinism_laws.proofs.RankExecution.{executes_in_rank_order}
use Rattle.determinism_laws.proofs.laws.deterministic_tasks_execute_in_rank_order.Goals as goal

pub returns : goal.returns
returns c = record {
  listed = λ p lim journal run. segments_can_be_listed p run.well_formed run.keeps lim journal run.legal;
  alike = λ p lim journal run. executes_in_rank_order p run.well_formed run.keeps lim journal run.legal;
}
