use Rattle.std.proofs.Common.{refl, sym, ap, ◌∙◌, subst}
use Rattle.twe_io.specs.declared.status.Status.TheVariants.{BadJournal}
use Rattle.twe_io.specs.Answers.{on_err}
use Rattle.text_answers.specs.Due.{JournalDue}
use Rattle.text_answers.proofs.journal_answers.answer_accepted.Goals as goal

-- no line is exactly `%%`
pub returns-in_ok-no_journal_text-in-None : goal.returns-in_ok-no_journal_text-in-None
returns-in_ok-no_journal_text-in-None g c =
    subst (JournalDue (g.P.JournalProgram.gives c.args.program.now) c.args.input.now)
    (sym (c.on_err.ensures ∙ ap (on_err BadJournal) c.in_ok-no_journal_text-in-None.ensures))
    (JournalDue.no_journal c.args.p.now c.requires.accepted (c.in-None.ensures.none refl))
