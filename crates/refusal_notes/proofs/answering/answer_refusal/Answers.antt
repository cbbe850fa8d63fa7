use Rattle.std.proofs.Common.{◌∙◌, sym, ap, subst}
use Rattle.twe_io.specs.declared.status.Status.TheVariants.{Refused}
use Rattle.twe_io.specs.Answers.{on_out}
use Rattle.refusal_notes.specs.Answers.{ExplainDue}
use Rattle.explain_pages.specs.declared.places.note.Explanation.{Explanation}
use Rattle.explain_pages.specs.Page.{refused_text}
use Rattle.refusal_notes.proofs.answering.answer_refusal.Goals as goal

-- what is said of the refusal
pub returns : goal.returns
returns c =
    let wanted = c.args.wanted.now in
    let text = c.args.text.now in
    subst (ExplainDue wanted text)
    (sym (c.on_out.ensures ∙ ap (on_out Refused) (c.in_ok-lines.ensures
    ∙ ap (λ (explanation : Explanation). refused_text wanted text c.args.refusal explanation) c.in_ok-explanation.ensures)))
    (ExplainDue.refused c.args.refusal c.args.cause c.requires.refused c.requires.caused)
