use Rattle.std.proofs.Common.{take, refl}
use Rattle.machine_state.specs.Runs.{state_after}
use Rattle.run_theorem.proofs.journals.tasks_keep_apart_throughout.Goals as goal

pub returns-clause-declared : goal.returns-clause-declared
returns-clause-declared c p lim journal run n within =
    c.tasks_keep_to_their_declarations.ensures p run.well_formed run.keeps lim (state_after p lim (take n journal)) (record {
      journal = take n journal;
      legal = c.beginnings_of_legal_journals_are_legal.ensures p lim journal n run.legal;
      same = refl;
    })

pub returns-clause-apart : goal.returns-clause-apart
returns-clause-apart c p lim journal run n within =
    c.tasks_that_may_run_do_not_conflict.ensures.movers p run.well_formed run.keeps lim (state_after p lim (take n journal)) (record {
      journal = take n journal;
      legal = c.beginnings_of_legal_journals_are_legal.ensures p lim journal n run.legal;
      same = refl;
    })
