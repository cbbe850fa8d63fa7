use Rattle.std.proofs.Common.{◌≡◌, ℕ, List, Option, None, Some, refl, sym, ap, ◌∙◌, subst}
use Rattle.std.proofs.lemmas.Result.{IfOk-weaker}
use Rattle.twe_io.specs.Answers.{on_err}
use Rattle.twe_io.specs.declared.status.Status.TheVariants.{Refused}
use Rattle.summary_comparing.specs.declared.lines.CompareLines.{CompareLines}
use Rattle.summary_comparing.specs.ChainTexts.{AreNamedLines}
use Rattle.twe_annotate.specs.Answers.{AnnotateDue}
use Rattle.twe_annotate.specs.Compared.{unknown_text}
use Rattle.twe_annotate.specs.declared.words.AnnotateRequest.TheVariants.{Explain}
use Rattle.twe_annotate.proofs.explaining.answer_explain.Goals as goal

-- no method and no task has the name
pub returns-in-None : goal.returns-in-None
returns-in-None c =
    let tree = c.args.meaning.tree in
    let p = c.args.meaning.program in
    let name = c.args.name.now in
    let none = subst (AreNamedLines tree p name) c.in-None.is
    (subst (λ (bytes : List ℕ). AreNamedLines tree p bytes c.in_ok-found.found) c.as_bytes-name.ensures c.in_ok-found.ensures) in
    IfOk-weaker c.unknown_answer.result _ (AnnotateDue (Explain name) c.args.text.now)
    (λ answer is. subst (AnnotateDue (Explain name) c.args.text.now)
    (sym (is ∙ ap (λ (bytes : List ℕ). on_err Refused (unknown_text bytes)) c.as_bytes-name.ensures))
    (AnnotateDue.unknown tree p name refl c.requires none))
    c.unknown_answer.ensures

-- the lines on the declaration
pub returns : goal.returns
returns c =
    let tree = c.args.meaning.tree in
    let p = c.args.meaning.program in
    let name = c.args.name.now in
    let some = subst (AreNamedLines tree p name) c.in-Some.is
    (subst (λ (bytes : List ℕ). AreNamedLines tree p bytes c.in_ok-found.found) c.as_bytes-name.ensures c.in_ok-found.ensures) in
    subst (AnnotateDue (Explain name) c.args.text.now) (sym c.answer_lines.ensures)
    (AnnotateDue.explained tree p name c.in-Some.lines refl c.requires some)
