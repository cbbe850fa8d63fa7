use Rattle.std.proofs.Common.{◌∙◌, sym, ap, subst}
use Rattle.twe_io.specs.declared.status.Status.TheVariants.{Refused}
use Rattle.twe_io.specs.Answers.{on_out}
use Rattle.refusal_notes.specs.Answers.{ExplainDue}
use Rattle.explain_pages.specs.declared.places.note.Explanation.{Explanation}
use Rattle.explain_pages.specs.Page.{refused_text}
use Rattle.refusal_notes.proofs.answering.answer_stray.Goals as goal

-- what is said of the tokens that may stand at the place
pub returns : goal.returns
returns c =
    let wanted = c.args.wanted.now in
    let text = c.args.text.now in
    subst (ExplainDue wanted text)
    (sym (c.on_out.ensures ∙ ap (on_out Refused) (c.in_ok-lines.ensures
    ∙ ap (λ (explanation : Explanation). refused_text wanted text c.args.refusal explanation) c.in_ok-explanation.ensures)))
    (ExplainDue.stray c.args.refusal c.args.tokens.now c.requires.refused c.requires.stray (sym c.is_of_end.ensures ∙ c.if-is_of_end.false) c.requires.may)
