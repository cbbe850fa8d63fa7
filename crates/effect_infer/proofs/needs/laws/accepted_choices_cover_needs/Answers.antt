use Rattle.effect_infer.proofs.needs.Leastness.{covered}
use Rattle.effect_infer.proofs.needs.laws.accepted_choices_cover_needs.Goals as goal

pub returns : goal.returns
returns c = λ p summaries choice accepted m summary need there needed. covered p summaries choice accepted m need needed summary there
