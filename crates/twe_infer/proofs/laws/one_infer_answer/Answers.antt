use Rattle.twe_infer.proofs.OneAnswer.{one-answer}
use Rattle.twe_infer.proofs.laws.one_infer_answer.Goals as goal

pub returns : goal.returns
returns c = one-answer c.one_tree.ensures c.one_refusal.ensures
