use Rattle.std.proofs.Common.{◌+◌, ◌<◌, ◌^◌, length, sym, subst, arith}
use Rattle.twe_program.specs.WellFormed.{IsWellFormed}
use Rattle.determinism_laws.specs.AcceptedRuns.{IsAcceptedRun}
use Rattle.answer_laws.proofs.Books.{run_answered}
use Rattle.answer_laws.proofs.laws.runs_are_answered_alike.Goals as goal

pub returns : goal.returns
returns c = λ text other p q workers lim asked answer accepted its_accepted same short some given.
    let meant = its_accepted.meant in
    let parsed = meant.parsed in
    let few : length other + 1 < 2 ^ 32 = omega (arith, short) in
    let tree = c.parsed_trees_are_from_texts.ensures other parsed.tokens meant.tree few parsed.cut parsed.writes parsed.keeps in
    let well : IsWellFormed q = subst IsWellFormed (sym meant.meaning) (c.meaning_is_well_formed.ensures meant.tree tree meant.keeps) in
    run_answered c.one_program.ensures c.refused_or_accepted.ensures.never_both text other p q workers lim asked accepted its_accepted same
    (c.programs_run_alike.ensures p q same)
    (λ journal legal.
    let run : IsAcceptedRun q lim journal = record { well_formed = well; keeps = its_accepted.keeps; legal = legal } in
    record {
      once = c.each_thing_happens_once.ensures.once q lim journal well legal;
      at_most_once = c.each_thing_happens_once.ensures.at_most_once q lim journal well legal;
      isolated = c.accepted_runs_are_isolated.ensures.isolated q well its_accepted.keeps lim journal legal;
      covered = c.accepted_runs_are_isolated.ensures.covered q well its_accepted.keeps lim journal legal;
      deterministic = c.deterministic_tasks_have_results.ensures q lim journal run some;
      of_main = c.deterministic_mains_have_their_results.ensures q lim journal run some;
    })
    given.0 answer given.1
