use Rattle.std.proofs.Common.{List, subst}
use Rattle.twe_ast.specs.declared.item.Item.{Item}
use Rattle.text_answers.specs.Due.{JournalDue}
use Rattle.text_answers.specs.Input.{program_part}
use Rattle.text_answers.proofs.OneJournalAnswer.{one_answer}
use Rattle.twe_advise.specs.Answers.{AdviceGiven}
use Rattle.twe_advise.proofs.OneAnswer.{all_legal, one_declarations, one_given}
use Rattle.twe_advise.proofs.laws.one_advice_answer.Goals as goal

pub returns : goal.returns
returns c = λ wanted text answer other due also.
    let items = also.0 in
    let same = one_declarations c.one_tree.ensures (program_part text) due.0 items due.1 also.1 in
    let advice = c.one_advice.ensures in
    one_answer c.one_program.ensures c.one_refusal.ensures c.refused_or_accepted.ensures.never_both (AdviceGiven wanted items) (all_legal wanted items)
    (one_given c.one_profile.ensures advice.works advice.tasks advice.times advice.steps c.one_held_profile.ensures wanted items) text answer other
    (subst (λ (l : List Item). JournalDue (AdviceGiven wanted l) text answer) same due.2) also.2
