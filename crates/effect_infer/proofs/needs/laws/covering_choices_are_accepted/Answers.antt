use Rattle.effect_infer.proofs.needs.Soundness.{accepted}
use Rattle.effect_infer.proofs.needs.laws.covering_choices_are_accepted.Goals as goal

pub returns : goal.returns
returns c = accepted
