use Rattle.std.proofs.Common.{[], codes}
use Rattle.clap.specs.Simple.{app_of}
use Rattle.command_line.specs.inner.Reading.{parsed, check_from}
use Rattle.command_line.proofs.Readings.{passed_up, unread}
use Rattle.command_line.proofs.command.read_check.Goals as goal

pub returns-in_err-matches_in : goal.returns-in_err-matches_in
returns-in_err-matches_in c =
    passed_up (parsed (codes "check") [] check_from c.args.words.now) c.from_residual.result c.in_err-matches_in.field-0.0 c.from_residual.ensures.1
    (unread (codes "check") [] check_from c.args.words.now (app_of c.plain.result) c.in_err-matches_in.field-0.0 c.plain.ensures c.in_err-matches_in.ensures)
