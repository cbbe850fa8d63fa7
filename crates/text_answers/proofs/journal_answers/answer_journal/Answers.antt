use Rattle.std.proofs.Common.{ℕ, Err, ap, ◌∙◌}
use Rattle.twe_report.specs.Texts.{not_a_move_text}
use Rattle.twe_io.specs.declared.status.Status.TheVariants.{BadJournal}
use Rattle.twe_io.specs.Answers.{on_err}
use Rattle.text_answers.proofs.Causes.{due_bad_line, due_found}
use Rattle.text_answers.proofs.journal_answers.answer_journal.Goals as goal

-- each line is a move or the head
pub returns-in-Ok : goal.returns-in-Ok
returns-in-Ok g c =
    due_found (g.P.JournalProgram.gives c.args.program.now) c.args.p.now c.args.journal.now c.in-Ok.found c.answer_found.result c.in-Ok.ensures.spelled c.answer_found.ensures

-- or one is not
pub returns-in_ok-not_a_move_text-in-Err-BadLine : goal.returns-in_ok-not_a_move_text-in-Err-BadLine
returns-in_ok-not_a_move_text-in-Err-BadLine g c =
    due_bad_line (g.P.JournalProgram.gives c.args.program.now) c.args.p.now c.args.journal.now c.in-Err-BadLine.n c.on_err.result
    (c.in-Err-BadLine.ensures.bad_line c.in-Err-BadLine.n (ap Err c.in-Err-BadLine.field-0-is))
    (c.on_err.ensures
    ∙ (ap (on_err BadJournal) c.in_ok-not_a_move_text-in-Err-BadLine.ensures ∙ ap (λ (n : ℕ). on_err BadJournal (not_a_move_text n)) c.in-Err-BadLine.n-is))
