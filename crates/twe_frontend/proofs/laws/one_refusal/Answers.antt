use Rattle.twe_frontend.proofs.OneAnswer.{one_refusal}
use Rattle.twe_frontend.proofs.laws.one_refusal.Goals as goal

pub returns : goal.returns
returns c text refusal other refused again = one_refusal c.one_tree.ensures text refusal other refused again
