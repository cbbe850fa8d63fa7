use Rattle.std.proofs.Common.{codes}
use Rattle.clap.specs.Simple.{app_of}
use Rattle.command_line.specs.Words.{run_items}
use Rattle.command_line.specs.inner.Reading.{parsed, run_from}
use Rattle.command_line.proofs.Readings.{passed_up, read_so, unread}
use Rattle.command_line.proofs.command.read_run.Goals as goal

pub returns-in_err-matches : goal.returns-in_err-matches
returns-in_err-matches c =
    passed_up (parsed (codes "run") run_items run_from c.args.words.now) c.from_residual-in_err-matches.result c.in_err-matches.field-0.0 c.from_residual-in_err-matches.ensures.1
    (unread (codes "run") run_items run_from c.args.words.now (app_of c.in_ok-run.field-0) c.in_err-matches.field-0.0 c.in_ok-run.ensures c.in_err-matches.ensures)

pub returns : goal.returns
returns c =
    read_so (codes "run") run_items run_from c.args.words.now (app_of c.in_ok-run.field-0) c.in_ok-matches.matches c.run_of.result c.in_ok-run.ensures c.in_ok-matches.ensures c.run_of.ensures
