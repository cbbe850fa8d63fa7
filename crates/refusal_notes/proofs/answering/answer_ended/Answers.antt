use Rattle.std.proofs.Common.{List, ◌∙◌, sym, ap, subst}
use Rattle.twe_io.specs.declared.status.Status.TheVariants.{Refused}
use Rattle.twe_io.specs.Answers.{on_out}
use Rattle.refusal_notes.specs.Answers.{ExplainDue}
use Rattle.explain_pages.specs.declared.places.note.Explanation.{Explanation}
use Rattle.explain_pages.specs.Page.{refused_text}
use Rattle.twe_base.specs.declared.place.Place.{Place}
use Rattle.refusal_notes.specs.Unclosed.{unclosed_explanation}
use Rattle.refusal_notes.proofs.Ending.{ends_early}
use Rattle.refusal_notes.proofs.answering.answer_ended.Goals as goal

-- the end is the first failure
pub open_at_end-requires : goal.open_at_end-requires
open_at_end-requires c = ends_early c.args.text.now c.args.refusal c.requires.refused c.requires.ended

-- what is said of the brackets that are open, and of the tokens that may stand there
pub returns : goal.returns
returns c =
    let wanted = c.args.wanted.now in
    let text = c.args.text.now in
    subst (ExplainDue wanted text)
    (sym (c.on_out.ensures ∙ ap (on_out Refused) (c.in_ok-lines.ensures
    ∙ ap (λ (explanation : Explanation). refused_text wanted text c.args.refusal explanation)
    (c.in_ok-explanation.ensures ∙ ap (λ (places : List Place). unclosed_explanation c.args.refusal c.args.tokens.now places) c.as_slice.ensures))))
    (ExplainDue.ended c.args.refusal c.args.tokens.now c.in_ok-places.places c.requires.refused c.requires.ended c.requires.may c.in_ok-places.ensures)
