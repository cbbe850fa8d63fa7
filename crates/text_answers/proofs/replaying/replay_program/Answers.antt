use Rattle.std.proofs.Common.{Err, ap, ◌∙◌}
use Rattle.twe_report.specs.Texts.{not_a_move_text}
use Rattle.text_answers.proofs.Replays.{replies_found, reply_to_bad_line}
use Rattle.text_answers.proofs.replaying.replay_program.Goals as goal

-- each line is a move
pub returns-in-Ok : goal.returns-in-Ok
returns-in-Ok c = replies_found c.args.p c.args.lim c.args.text.now c.in-Ok.found c.replay_found.result c.in-Ok.ensures.spelled c.replay_found.ensures

-- a line is no move
pub returns-in_ok-line-in-Err-BadLine : goal.returns-in_ok-line-in-Err-BadLine
returns-in_ok-line-in-Err-BadLine c =
    let bad = c.in-Err-BadLine.ensures.bad_line c.in-Err-BadLine.n (ap Err c.in-Err-BadLine.field-0-is) in
    reply_to_bad_line c.args.p c.args.lim c.args.text.now c.in-Err-BadLine.n c.in_ok-line-in-Err-BadLine.line c.refuse_journal.result bad
    (c.in_ok-line-in-Err-BadLine.ensures ∙ ap not_a_move_text c.in-Err-BadLine.n-is) c.refuse_journal.ensures.program c.refuse_journal.ensures.answer
