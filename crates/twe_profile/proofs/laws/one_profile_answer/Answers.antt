use Rattle.text_answers.proofs.OneJournalAnswer.{one_answer}
use Rattle.twe_profile.specs.Answers.{ProfileGiven}
use Rattle.twe_profile.proofs.OneAnswer.{all_legal, one_given}
use Rattle.twe_profile.proofs.laws.one_profile_answer.Goals as goal

pub returns : goal.returns
returns c = one_answer c.one_program.ensures c.one_refusal.ensures c.refused_or_accepted.ensures.never_both ProfileGiven all_legal (one_given c.one_profile.ensures)
