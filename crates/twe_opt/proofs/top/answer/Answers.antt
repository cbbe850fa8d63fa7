use Rattle.std.proofs.Common.{◌∙◌, Option, refl, sym, ap, subst}
use Rattle.command_line.specs.declared.command.Command.{Command}
use Rattle.twe_io.specs.Answers.{on_err}
use Rattle.twe_io.specs.Ends.{source}
use Rattle.twe_io.specs.declared.status.Status.TheVariants.{Usage}
use Rattle.text_answers.specs.Causes.{CauseOfWords}
use Rattle.twe_opt.specs.Words.{opt_usage_text}
use Rattle.twe_opt.proofs.Causes.{asked_range, cause_asked}
use Rattle.twe_opt.proofs.top.answer.Goals as goal

-- the words ask for 1 to 64 workers
pub answer_command-requires-clause-sized : goal.answer_command-requires-clause-sized
answer_command-requires-clause-sized g c = λ κs fits. (asked_range c.args.words.now c.in-Some.cmd (sym c.in-Some.ensures)).0

pub answer_command-requires-clause-some : goal.answer_command-requires-clause-some
answer_command-requires-clause-some g c = λ κs fits. (asked_range c.args.words.now c.in-Some.cmd (sym c.in-Some.ensures)).1

-- their run is answered
pub returns-in_ok-reply-in-Some : goal.returns-in_ok-reply-in-Some
returns-in_ok-reply-in-Some g c =
    let src = source g.S.Source.left g.S.Source.faults g.S.Source.read_gives in
    let made = c.in_ok-reply-in-Some in
    cause_asked src c.args.words.now c.args.src.now c.answer_command.new.src made.reply.book c.in-Some.cmd made.reply.answer (sym c.in-Some.ensures) made.ensures

-- they ask for no run
pub returns-in_ok-usage_text-in-None : goal.returns-in_ok-usage_text-in-None
returns-in_ok-usage_text-in-None g c =
    let src = source g.S.Source.left g.S.Source.faults g.S.Source.read_gives in
    let line = c.on_err.ensures ∙ ap (on_err Usage) c.in_ok-usage_text-in-None.ensures in
    subst (λ (meaning : Option Command). CauseOfWords src opt_usage_text meaning c.args.src.now c.args.src.now c.args.book.now c.on_err.result) c.in-None.ensures
    (line, refl, c.requires)
