use Rattle.std.proofs.Common.{List, refl, ap, ◌∙◌}
use Rattle.seg_journal.specs.declared.journal.Entry.{Entry}
use Rattle.machine_state.specs.declared.state.State.{State}
use Rattle.text_answers.specs.inner.Given.{reported}
use Rattle.text_answers.proofs.Dues.{due_for_run}
use Rattle.text_answers.proofs.running.answer_run.Goals as goal

-- the journal in the book, and the state, are those of the run
pub returns : goal.returns
returns c =
    let made = c.in_ok-reply in
    let is = made.ensures.reply in
    let asked = c.args.asked.now in
    let plain = made.reply in
    due_for_run asked c.args.p c.args.run plain _ c.requires.whole is refl
    (c.in_ok-answer.ensures
    ∙ (ap (λ (st : State). reported asked st plain.book.journal plain.answer) made.ensures.state
    ∙ ap (λ (journal : List Entry). reported asked c.args.run.state journal plain.answer) is.kept))
