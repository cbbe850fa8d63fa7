use Rattle.std.proofs.Common.{List, ℕ, subst}
use Rattle.std.proofs.lemmas.Result.{IfOk-weaker}
use Rattle.twe_advise.specs.Answers.{AdviceDue}
use Rattle.twe_advise.specs.Parameters.{AreDeclarations}
use Rattle.twe_advise.proofs.program.AdviceWordsTextProgram.answer_text.Goals as goal

-- the answer is due to the text, whose declarations were read
pub returns : goal.returns
returns c =
    let items = c.in_ok-items.items in
    IfOk-weaker c.answer_with_journal.result _ (AdviceDue c.args.self.now c.args.text.now)
    (λ answer due. (items, subst (λ (text : List ℕ). AreDeclarations text items) c.cut_input.ensures.program c.in_ok-items.ensures, due))
    c.answer_with_journal.ensures
