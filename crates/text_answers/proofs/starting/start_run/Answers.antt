use Rattle.text_answers.proofs.Starts.{refused_to_run, to_run}
use Rattle.text_answers.proofs.starting.start_run.Goals as goal

-- the program is to be run
pub returns-in-Ok : goal.returns-in-Ok
returns-in-Ok c = to_run c.in-Ok.p c.args.asked c.args.program.now c.in-Ok.ensures.accepted c.requires

-- the program is refused
pub returns-in_ok-reply-in-Err : goal.returns-in_ok-reply-in-Err
returns-in_ok-reply-in-Err c =
    let made = c.in_ok-reply-in-Err in
    refused_to_run c.args.asked c.args.program.now c.in-Err.fail made.reply c.in-Err.ensures.refused made.ensures
