use Rattle.twe_io.specs.Ends.{ends_tell, sink, source}
use Rattle.twe_report.specs.Texts.{usage_text}
use Rattle.run_theorem.proofs.Headline.{of_meaning}
use Rattle.run_theorem.proofs.theorem.the_run_theorem.Goals as goal

pub returns : goal.returns
returns g c words workers lim asked before after book means came =
    let src = source g.S.Source.left g.S.Source.faults g.S.Source.read_gives in
    let out = sink g.O.Sink.written g.O.Sink.faults g.O.Sink.write_gives in
    let err = sink g.E.Sink.written g.E.Sink.faults g.E.Sink.write_gives in
    of_meaning c.accepted_programs_are_well_formed.ensures.well_formed c.accepted_runs_are_isolated.ensures.within
    c.tasks_keep_apart_throughout.ensures.declared c.tasks_keep_apart_throughout.ensures.apart c.each_task_is_enabled_once.ensures.once
    (ends_tell src out err) workers lim asked before after book words usage_text (c.one_command.ensures words) means came.0 came.1 came.2
