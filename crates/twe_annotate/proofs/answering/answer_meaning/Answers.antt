use Rattle.std.proofs.Common.{sym, subst}
use Rattle.std.specs.Prelude.{IfOk}
use Rattle.twe_annotate.specs.Answers.{AnnotateDue}
use Rattle.twe_annotate.specs.declared.words.AnnotateRequest.{AnnotateRequest}
use Rattle.twe_annotate.proofs.answering.answer_meaning.Goals as goal

-- the matrix is asked for
pub returns-in-Matrix : goal.returns-in-Matrix
returns-in-Matrix c = subst (λ (request : AnnotateRequest). IfOk c.answer_matrix.result (AnnotateDue request c.args.text.now)) (sym c.in-Matrix.is) c.answer_matrix.ensures

-- the text is asked for
pub returns-in-Write : goal.returns-in-Write
returns-in-Write c = subst (λ (request : AnnotateRequest). IfOk c.answer_write.result (AnnotateDue request c.args.text.now)) (sym c.in-Write.is) c.answer_write.ensures

-- a comparison is asked for
pub returns-in-Compare : goal.returns-in-Compare
returns-in-Compare c = subst (λ (request : AnnotateRequest). IfOk c.answer_compare.result (AnnotateDue request c.args.text.now)) (sym c.in-Compare.is) c.answer_compare.ensures

-- a declaration is asked about
pub returns-in-Explain : goal.returns-in-Explain
returns-in-Explain c =
    subst (λ (request : AnnotateRequest). IfOk c.answer_explain.result (AnnotateDue request c.args.text.now)) (sym c.in-Explain.is)
    c.answer_explain.ensures
