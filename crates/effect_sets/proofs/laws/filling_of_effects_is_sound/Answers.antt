use Rattle.effect_sets.proofs.Filling.{fill_effect-literals, fill_effect-within}
use Rattle.effect_sets.proofs.laws.filling_of_effects_is_sound.Goals as goal

pub returns : goal.returns
returns c = record { numbers = fill_effect-literals; arguments = fill_effect-within }
