use Rattle.std.proofs.Common.{◌≡◌, take}
use Rattle.effect_sets.proofs.effects.Summary.copy.Given as goal

abbrev pub invariant-loop-effect : goal.invariant-loop-effect
invariant-loop-effect l = l.effects ≡ take l.effect-index l.self.effects
