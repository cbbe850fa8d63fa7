use Rattle.std.proofs.Common.{refl, take}
use Rattle.run_laws.proofs.laws.accepted_runs_are_safe.Goals as goal

pub returns : goal.returns
returns c = λ p lim journal run some. record {
  isolated = c.accepted_runs_are_isolated.ensures.isolated p run.well_formed run.keeps lim journal run.legal;
  within = c.accepted_runs_are_isolated.ensures.within p run.well_formed run.keeps lim journal run.legal;
  covered = c.accepted_runs_are_isolated.ensures.covered p run.well_formed run.keeps lim journal run.legal;
  apart = λ n below. c.tasks_that_may_run_do_not_conflict.ensures.movers p run.well_formed run.keeps lim _
      (record { journal = take n journal; legal = c.beginnings_of_legal_journals_are_legal.ensures p lim journal n run.legal; same = refl });
  results = c.deterministic_tasks_have_results.ensures p lim journal run some;
  main = c.deterministic_mains_have_their_results.ensures p lim journal run some;
}
