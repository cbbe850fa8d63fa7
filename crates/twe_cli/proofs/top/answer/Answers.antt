use Rattle.std.proofs.Common.{Err, Some, subst}
use Rattle.command_line.specs.Words.{IsReading}
use Rattle.command_line.specs.declared.command.WordsFail.{WordsFail}
use Rattle.command_line.proofs.Sizes.{means_sized}
use Rattle.twe_io.specs.Ends.{source}
use Rattle.twe_cli.proofs.Causes.{cause_usage}
use Rattle.twe_cli.proofs.top.answer.Goals as goal

-- the size of a load that the words mean is in its range
pub answer_command-requires-clause-sized : goal.answer_command-requires-clause-sized
answer_command-requires-clause-sized g c = λ κs fits. means_sized c.in-Ok.ensures

-- the words mean a command, which is answered
pub returns-in_ok-reply-in-Ok : goal.returns-in_ok-reply-in-Ok
returns-in_ok-reply-in-Ok g c = (Some c.in-Ok.cmd, c.in-Ok.ensures, c.in_ok-reply-in-Ok.ensures)

-- they mean none, and the answer is the usage line
pub returns-in-Err-Usage : goal.returns-in-Err-Usage
returns-in-Err-Usage g c =
    let src = source g.S.Source.left g.S.Source.faults g.S.Source.read_gives in
    cause_usage src c.args.words.now c.args.src.now c.args.book.now c.usage.result
    (subst (λ (f : WordsFail). IsReading c.args.words.now (Err f)) c.in-Err-Usage.field-0-is c.in-Err-Usage.ensures) c.requires c.usage.ensures
