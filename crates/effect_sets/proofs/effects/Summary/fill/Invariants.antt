use Rattle.std.proofs.Common.{◌≡◌, map, take}
use Rattle.effect_sets.specs.Filled.{fill_effect}
use Rattle.effect_sets.proofs.effects.Summary.fill.Given as goal

abbrev pub invariant-loop-effect : goal.invariant-loop-effect
invariant-loop-effect l = l.effects ≡ map (fill_effect l.args) (take l.effect-index l.self.effects)
