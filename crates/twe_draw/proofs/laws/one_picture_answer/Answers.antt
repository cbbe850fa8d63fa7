use Rattle.text_answers.proofs.OneJournalAnswer.{one_answer}
use Rattle.twe_draw.specs.Answers.{PictureGiven}
use Rattle.twe_draw.proofs.OneAnswer.{all_legal, one_given}
use Rattle.twe_draw.proofs.laws.one_picture_answer.Goals as goal

pub returns : goal.returns
returns c = λ drawing. one_answer c.one_program.ensures c.one_refusal.ensures c.refused_or_accepted.ensures.never_both (PictureGiven drawing) (all_legal drawing)
    (one_given c.one_profile.ensures c.one_held_profile.ensures drawing)
