use Rattle.span_profile.proofs.WorksSum.{works_sum}
use Rattle.span_profile.proofs.laws.works_add_up.Goals as goal

pub returns : goal.returns
returns c = works_sum
