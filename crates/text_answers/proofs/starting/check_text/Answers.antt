use Rattle.std.proofs.Common.{refl}
use Rattle.command_line.specs.declared.command.Command.TheVariants.{Check}
use Rattle.text_answers.proofs.Starts.{accepted, refused}
use Rattle.text_answers.proofs.starting.check_text.Goals as goal

-- the text is accepted
pub returns-in-Ok : goal.returns-in-Ok
returns-in-Ok c = accepted c.in-Ok.p c.args.text.now c.accept.result c.in-Ok.ensures.accepted c.accept.ensures.program c.accept.ensures.answer

-- the text is refused
pub returns-in-Err : goal.returns-in-Err
returns-in-Err c = refused Check c.args.text.now c.args.text.now c.in-Err.fail c.refuse.result refl c.in-Err.ensures.refused c.refuse.ensures
