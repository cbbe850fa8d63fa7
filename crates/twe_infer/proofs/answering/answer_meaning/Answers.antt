use Rattle.std.proofs.Common.{◌≡◌, ℕ, List, Some, length, get_or, refl, sym, ap, ◌∙◌, subst}
use Rattle.std.specs.Prelude.{slice_get}
use Rattle.std.proofs.lemmas.Option.{slice_get_read}
use Rattle.effect_sets.specs.declared.effects.Summary.{Summary}
use Rattle.twe_ast.specs.declared.item.Item.{Item}
use Rattle.twe_program.specs.declared.program.Decl.{Decl}
use Rattle.twe_program.specs.Program.{Program}
use Rattle.effect_infer.specs.declared.fail.InferFail.{InferFail}
use Rattle.effect_infer.specs.Inferred.{InferHasCause}
use Rattle.twe_io.specs.declared.status.Status.TheVariants.{Done, TooMany}
use Rattle.twe_io.specs.Answers.{on_err, on_out}
use Rattle.twe_infer.specs.Answers.{InferDue}
use Rattle.twe_infer.specs.Texts.{summary_lines_of, too_many_text}
use Rattle.twe_infer.proofs.answering.answer_meaning.Goals as goal

-- the lines of the least summaries
pub returns-in_ok-lines-in-Ok : goal.returns-in_ok-lines-in-Ok
returns-in_ok-lines-in-Ok c =
    let tree = c.args.meaning.now.tree in
    let p = c.args.meaning.now.program in
    let regions = c.as_slice.ensures ∙ ap (λ (q : Program). q.regions) c.p.view_is in
    let is : c.in_ok-lines-in-Ok.lines ≡ summary_lines_of p.regions c.in-Ok.summaries tree.items =
    c.in_ok-lines-in-Ok.ensures ∙ ap (λ (names : List (List ℕ)). summary_lines_of names c.as_slice-in-Ok.result.now c.as_slice-items.result.now) regions
    ∙ ap (λ (summaries : List Summary). summary_lines_of p.regions summaries c.as_slice-items.result.now) c.as_slice-in-Ok.ensures
    ∙ ap (λ (items : List Item). summary_lines_of p.regions c.in-Ok.summaries items) c.as_slice-items.ensures in
    subst (InferDue c.args.text.now) (sym (c.on_out.ensures ∙ ap (on_out Done) is))
    (InferDue.inferred tree p c.in-Ok.summaries c.requires c.in-Ok.ensures.least)

-- the name of the first method with too many effects
pub returns-in_ok-line-in-Err-TooMany : goal.returns-in_ok-line-in-Err-TooMany
returns-in_ok-line-in-Err-TooMany c =
    let p = c.args.meaning.now.program in
    let decl = c.index-as_slice-method.result in
    let method = c.in-Err-TooMany.method in
    let cause = subst (λ (fail : InferFail). InferHasCause p fail) c.in-Err-TooMany.field-0-is c.in-Err-TooMany.ensures.refused in
    let methods = c.as_slice-in-Err-TooMany.ensures ∙ ap (λ (q : Program). q.methods) c.p.view_is in
    let at : decl ≡ get_or p.methods method decl = c.index-as_slice-method.is ∙ ap (λ (ds : List Decl). get_or ds method decl) methods in
    let there : slice_get p.methods method ≡ Some decl = slice_get_read p.methods (length p.methods) method decl refl cause.0 at in
    subst (InferDue c.args.text.now) (sym (c.on_err.ensures ∙ ap (on_err TooMany) c.in_ok-line-in-Err-TooMany.ensures))
    (InferDue.too_many c.args.meaning.now.tree p method decl c.requires cause there)
