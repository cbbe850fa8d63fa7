use Rattle.std.proofs.Common.{ap, sym, subst, ◌∙◌}
use Rattle.command_line.specs.Words.{IsSized}
use Rattle.command_line.specs.declared.command.Command.{Command}
use Rattle.text_answers.specs.Input.{program_text}
use Rattle.text_answers.specs.Running.{asked_of}
use Rattle.text_answers.specs.inner.Given.{IsReplyTo}
use Rattle.text_answers.proofs.Starts.{asks_for_load, of_run}
use Rattle.text_answers.proofs.starting.start_input.Goals as goal

pub returns-in_ok-reply-in-Check : goal.returns-in_ok-reply-in-Check
returns-in_ok-reply-in-Check c =
    let made = c.in_ok-reply-in-Check in
    subst (λ (command : Command). IsReplyTo command c.args.input.now made.reply) (sym c.in-Check.is) made.ensures

pub returns-in_ok-reply-in-Replay : goal.returns-in_ok-reply-in-Replay
returns-in_ok-reply-in-Replay c =
    let made = c.in_ok-reply-in-Replay in
    subst (λ (command : Command). IsReplyTo command c.args.input.now made.reply) (sym c.in-Replay.is) made.ensures

-- the number of workers is in its range
pub start_run-requires : goal.start_run-requires
start_run-requires c = subst IsSized c.in-Run.is c.requires.sized

-- a run of the text that is the input
pub returns-in-Run : goal.returns-in-Run
returns-in-Run c =
    of_run c.args.cmd.now c.args.input.now c.args.input.now _ c.start_run.result (ap asked_of c.in-Run.is)
    (sym (ap (λ (command : Command). program_text command c.args.input.now) c.in-Run.is)) c.start_run.ensures

pub start_run-requires-in-Load : goal.start_run-requires-in-Load
start_run-requires-in-Load c = (subst IsSized c.in-Load.is c.requires.sized).0

-- a run of the text of the load generator, under the default limits
pub returns-in_ok-text-in-Load : goal.returns-in_ok-text-in-Load
returns-in_ok-text-in-Load c =
    of_run c.args.cmd.now c.args.input.now c.as_slice.result.now _ c.start_run-in-Load.result
    (asks_for_load c.args.cmd.now c.in-Load.workers c.in-Load.n _ c.in-Load.is c.default-limits.ensures)
    (c.as_slice.ensures ∙ (c.in_ok-text-in-Load.ensures.written ∙ sym (ap (λ (command : Command). program_text command c.args.input.now) c.in-Load.is)))
    c.start_run-in-Load.ensures
