use Rattle.std.proofs.Common.{ℕ, Err, sym, ap, ◌∙◌, subst}
use Rattle.twe_report.specs.Texts.{not_a_move_text}
use Rattle.twe_io.specs.declared.status.Status.TheVariants.{BadJournal}
use Rattle.twe_io.specs.Answers.{on_out}
use Rattle.run_notes.specs.Journals.{JournalTold}
use Rattle.run_notes.proofs.journals.answer_journal.Goals as goal

-- a line is no move
pub returns-in_ok-line-in-Err-BadLine : goal.returns-in_ok-line-in-Err-BadLine
returns-in_ok-line-in-Err-BadLine c =
    subst (JournalTold c.args.wanted.now c.args.text.now c.args.p.now c.args.journal.now)
    (sym (c.on_out.ensures
    ∙ (ap (on_out BadJournal) c.in_ok-line-in-Err-BadLine.ensures ∙ ap (λ (n : ℕ). on_out BadJournal (not_a_move_text n)) c.in-Err-BadLine.n-is)))
    (JournalTold.not_a_move c.in-Err-BadLine.n (c.in-Err-BadLine.ensures.bad_line c.in-Err-BadLine.n (ap Err c.in-Err-BadLine.field-0-is)))
