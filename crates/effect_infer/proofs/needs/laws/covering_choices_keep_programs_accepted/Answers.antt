use Rattle.effect_infer.proofs.needs.Staying.{stays-accepted}
use Rattle.effect_infer.proofs.needs.laws.covering_choices_keep_programs_accepted.Goals as goal

pub returns : goal.returns
returns c = stays-accepted
