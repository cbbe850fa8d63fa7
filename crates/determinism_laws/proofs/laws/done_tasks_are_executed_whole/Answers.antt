use Rattle.determinism_laws.proofs.ExecutedOrder.{executions_in_rank_order}
use Rattle.determinism_laws.proofs.Executing.{done_tasks_executed}
use Rattle.determinism_laws.proofs.laws.done_tasks_are_executed_whole.Goals as goal

pub returns : goal.returns
returns c = record {
  executed = λ p lim journal run. done_tasks_executed p run.well_formed run.keeps lim journal run.legal;
  in_order = λ p lim journal run. executions_in_rank_order p run.well_formed run.keeps lim journal run.legal;
}
