use Rattle.std.proofs.Common.{List, ap, sym, subst, ◌∙◌}
use Rattle.twe_ast.specs.declared.item.Item.{Item}
use Rattle.twe_io.specs.declared.status.Status.TheVariants.{Refused}
use Rattle.twe_io.specs.Answers.{on_out}
use Rattle.refusal_notes.specs.Answers.{ExplainDue}
use Rattle.explain_pages.specs.declared.places.note.Explanation.{Explanation}
use Rattle.explain_pages.specs.names.Named.{named_explanation}
use Rattle.explain_pages.specs.Page.{refused_text}
use Rattle.refusal_notes.proofs.answering.answer_named.Goals as goal

-- what is said of the name at the place
pub returns : goal.returns
returns c =
    let wanted = c.args.wanted.now in
    let text = c.args.text.now in
    subst (ExplainDue wanted text)
    (sym (c.on_out.ensures ∙ ap (on_out Refused) (c.in_ok-lines.ensures
    ∙ ap (λ (explanation : Explanation). refused_text wanted text c.args.refusal explanation)
    (c.in_ok-explanation.ensures ∙ ap (λ (items : List Item). named_explanation text c.args.refusal c.args.cause items) c.as_slice.ensures))))
    (ExplainDue.named c.args.refusal c.args.cause c.args.tree.now c.requires.refused c.requires.names c.requires.parsed c.requires.caused)
