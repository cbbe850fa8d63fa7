use Rattle.std.proofs.Common.{◌≡◌, ℕ, List, refl, sym, ap, ◌∙◌, subst}
use Rattle.twe_ast.specs.declared.item.Item.{Item}
use Rattle.twe_program.specs.declared.program.Decl.{Decl}
use Rattle.twe_program.specs.Program.{Program}
use Rattle.twe_io.specs.declared.status.Status.TheVariants.{Done}
use Rattle.twe_io.specs.Answers.{on_out}
use Rattle.twe_annotate.specs.Answers.{AnnotateDue}
use Rattle.twe_annotate.specs.Texts.{matrix_lines}
use Rattle.twe_annotate.specs.declared.words.AnnotateRequest.TheVariants.{Matrix}
use Rattle.twe_annotate.proofs.answering.answer_matrix.Goals as goal

-- the lines of the matrix
pub returns : goal.returns
returns c =
    let tree = c.args.meaning.now.tree in
    let p = c.args.meaning.now.program in
    let regions = c.as_slice-regions.ensures ∙ ap (λ (q : Program). q.regions) c.p.view_is in
    let tasks = c.as_slice-tasks.ensures ∙ ap (λ (q : Program). q.tasks) c.p.view_is in
    let is : c.in_ok-lines.lines ≡ matrix_lines p.regions tree.items p.tasks =
    c.in_ok-lines.ensures ∙ ap (λ (names : List (List ℕ)). matrix_lines names c.as_slice-items.result.now c.as_slice-tasks.result.now) regions
    ∙ ap (λ (items : List Item). matrix_lines p.regions items c.as_slice-tasks.result.now) c.as_slice-items.ensures
    ∙ ap (λ (ds : List Decl). matrix_lines p.regions tree.items ds) tasks in
    subst (AnnotateDue Matrix c.args.text.now) (sym (c.on_out.ensures ∙ ap (on_out Done) is))
    (AnnotateDue.planned tree p refl c.requires)
