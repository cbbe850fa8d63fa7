use Rattle.std.proofs.Common.{subst}
use Rattle.text_answers.specs.declared.starting.Started.{Started}
use Rattle.text_answers.specs.inner.Given.{IsStartedFor}
use Rattle.text_answers.proofs.Dues.{due_of_run}
use Rattle.text_answers.proofs.answering.answer_alone.Goals as goal

-- the reply was at hand
pub returns-in-Answered : goal.returns-in-Answered
returns-in-Answered c =
    let is = subst (λ (s : Started). IsStartedFor c.args.cmd.now c.args.input.now s) c.in-Answered.is c.in_ok-started.ensures in (c.in-Answered.reply.book, is)

-- the program keeps the rules on effects
pub answer_run-requires-clause-keeps : goal.answer_run-requires-clause-keeps
answer_run-requires-clause-keeps c =
    let is = subst (λ (s : Started). IsStartedFor c.args.cmd.now c.args.input.now s) c.in-ToRun.is c.in_ok-started.ensures in is.1.keeps

-- the program was run
pub returns-in_ok-reply-in-ToRun : goal.returns-in_ok-reply-in-ToRun
returns-in_ok-reply-in-ToRun c =
    let is = subst (λ (s : Started). IsStartedFor c.args.cmd.now c.args.input.now s) c.in-ToRun.is c.in_ok-started.ensures in
    due_of_run c.args.cmd.now c.args.input.now c.in-ToRun.p c.in-ToRun.asked c.in_ok-reply-in-ToRun.reply is.1.asks is.0 c.in_ok-reply-in-ToRun.ensures
