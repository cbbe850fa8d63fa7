use Rattle.std.proofs.Common.{refl}
use Rattle.twe_annotate.proofs.Written.{all-least}
use Rattle.twe_annotate.proofs.laws.written_texts_stay_accepted.Goals as goal

-- the program with these summaries
pub returns-clause-meant : goal.returns-clause-meant
returns-clause-meant c text bytes tree p all means least can is =
    c.pasted_texts_stay_accepted.ensures.meant text bytes tree p all means (all-least p all least.least) can is

-- no rule on effects fails with them
pub returns-clause-accepted : goal.returns-clause-accepted
returns-clause-accepted c text bytes tree p all means least can is accepted =
    c.pasted_texts_stay_accepted.ensures.accepted text bytes tree p all means (all-least p all least.least) can is (least.stays all refl accepted.keeps)
