use Rattle.std.proofs.Common.{sym, ◌∙◌}
use Rattle.all_runs.proofs.Outcomes.{unfinished}
use Rattle.all_runs.proofs.exploring.Exploration.add.Goals as goal

pub returns-clause-found : goal.returns-clause-found
returns-clause-found c =
    c.add_going.ensures.found c.args.p.now c.args.lim c.requires.found
    (record {
      is_run = c.requires.is_run;
      unfinished = unfinished c.args.next.state c.in_ok-end.end (sym c.is_over.ensures ∙ c.if-is_over.false) c.in_ok-end.ensures;
    })
