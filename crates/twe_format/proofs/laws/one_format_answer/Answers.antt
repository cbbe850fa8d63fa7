use Rattle.twe_format.proofs.OneAnswer.{one-answer}
use Rattle.twe_format.proofs.laws.one_format_answer.Goals as goal

pub returns : goal.returns
returns c = one-answer c.one_refusal.ensures
