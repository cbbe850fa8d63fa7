use Rattle.std.proofs.Common.{◌≡◌, sym, subst}
use Rattle.std.proofs.lemmas.Result.{IfOk-weaker}
use Rattle.command_line.specs.Words.{IsSized}
use Rattle.command_line.specs.declared.command.Command.{Command}
use Rattle.text_answers.specs.Answers.{IsAnswerTo, without_workers}
use Rattle.text_answers.proofs.Alone.{alone_is_sized, answer_by_any}
use Rattle.text_answers.proofs.answering.answer_text.Goals as goal

pub answer_alone-requires-clause-sized : goal.answer_alone-requires-clause-sized
answer_alone-requires-clause-sized c =
    subst IsSized (sym c.without_workers.ensures) (alone_is_sized c.args.cmd.now c.requires.sized)

-- the answer to the command without workers is one to the command
pub returns-clause-answers : goal.returns-clause-answers
returns-clause-answers c =
    let command = c.args.cmd.now in
    let input = c.args.input.now in
    IfOk-weaker c.answer_alone.result (IsAnswerTo c.without_workers.result input) (IsAnswerTo command input)
    (λ answer is. answer_by_any command input answer (subst (λ (cmd : Command). IsAnswerTo cmd input answer) c.without_workers.ensures is)) c.answer_alone.ensures
