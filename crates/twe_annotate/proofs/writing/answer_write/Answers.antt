use Rattle.std.proofs.Common.{List, refl, sym, ap, ◌∙◌, subst}
use Rattle.twe_ast.specs.declared.item.Item.{Item}
use Rattle.twe_io.specs.declared.status.Status.TheVariants.{Refused, TooLong}
use Rattle.twe_io.specs.Answers.{on_err}
use Rattle.summary_texts.specs.declared.fail.PasteFail.{PasteFail}
use Rattle.summary_texts.specs.Pasted.{PasteHasCause}
use Rattle.twe_annotate.specs.Answers.{AnnotateDue, AreLeastOf}
use Rattle.twe_annotate.specs.Kept.{kept_lines}
use Rattle.twe_annotate.specs.declared.words.AnnotateRequest.TheVariants.{Write}
use Rattle.twe_annotate.proofs.Written.{are-least-of, due-written}
use Rattle.twe_annotate.proofs.writing.answer_write.Goals as goal

-- the text with the least summaries
pub returns-in-Ok : goal.returns-in-Ok
returns-in-Ok c =
    let p = c.args.meaning.program in
    let least = subst (AreLeastOf p) (sym c.as_slice-summaries.ensures) (are-least-of p c.in_ok-each.each c.in_ok-each.ensures.least c.in_ok-each.ensures.stays) in
    due-written c.args.text.now c.args.meaning.tree p c.as_slice-summaries.result.now c.write_status-status.result c.in-Ok.out c.in_ok-err.err c.requires least c.in-Ok.ensures.pasted
    c.write_status-status.ensures (c.in_ok-err.ensures ∙ ap (λ (items : List Item). kept_lines c.as_slice-summaries.result.now items) c.as_slice.ensures)

-- it would be too long
pub returns-in-Err-TooLong : goal.returns-in-Err-TooLong
returns-in-Err-TooLong c =
    let tree = c.args.meaning.tree in
    let p = c.args.meaning.program in
    let each = c.as_slice-summaries.result.now in
    let least = subst (AreLeastOf p) (sym c.as_slice-summaries.ensures) (are-least-of p c.in_ok-each.each c.in_ok-each.ensures.least c.in_ok-each.ensures.stays) in
    let cause = subst (λ (fail : PasteFail). PasteHasCause each tree c.args.text.now fail) c.in-Err-TooLong.field-0-is c.in-Err-TooLong.ensures.refused in
    subst (AnnotateDue Write c.args.text.now) (sym (c.on_err.ensures ∙ ap (on_err TooLong) c.in_ok-long_text-in-Err-TooLong.ensures))
    (AnnotateDue.too_long tree p each refl c.requires least cause)

-- it would be another text
pub returns-in-Err-Differs : goal.returns-in-Err-Differs
returns-in-Err-Differs c =
    let tree = c.args.meaning.tree in
    let p = c.args.meaning.program in
    let each = c.as_slice-summaries.result.now in
    let least = subst (AreLeastOf p) (sym c.as_slice-summaries.ensures) (are-least-of p c.in_ok-each.each c.in_ok-each.ensures.least c.in_ok-each.ensures.stays) in
    let cause = subst (λ (fail : PasteFail). PasteHasCause each tree c.args.text.now fail) c.in-Err-Differs.field-0-is c.in-Err-Differs.ensures.refused in
    subst (AnnotateDue Write c.args.text.now) (sym (c.on_err-in-Err-Differs.ensures ∙ ap (on_err Refused) c.in_ok-otherwise_text-in-Err-Differs.ensures))
    (AnnotateDue.otherwise tree p each refl c.requires least cause)
