use Rattle.command_line.specs.declared.command.Command.TheVariants.{Replay}
use Rattle.text_answers.proofs.Starts.{refused, replayed}
use Rattle.text_answers.proofs.starting.replay_input.Goals as goal

-- the program is accepted, and the journal text is replayed
pub returns-in-Ok : goal.returns-in-Ok
returns-in-Ok c =
    replayed c.args.lim c.in-Ok.p c.args.input.now c.cut_input.result.0.now c.cut_input.result.1.now c.replay_program.result
    c.cut_input.ensures.program c.cut_input.ensures.journal c.in-Ok.ensures.accepted c.replay_program.ensures

-- the program is refused
pub returns-in-Err : goal.returns-in-Err
returns-in-Err c =
    refused (Replay c.args.lim) c.args.input.now c.cut_input.result.0.now c.in-Err.fail c.refuse.result c.cut_input.ensures.program c.in-Err.ensures.refused c.refuse.ensures
