use Rattle.std.proofs.Common.{◌≡◌, ◌++◌, drop, map}
use Rattle.effect_infer.specs.needs.Needs.{effect_of}
use Rattle.effect_infer.proofs.summary.summary.Given as goal

-- the effects so far and those of what is left are those of all
abbrev pub invariant-loop-need : goal.invariant-loop-need
invariant-loop-need l = l.effects ++ map effect_of (drop l.need-index l.needs) ≡ map effect_of l.needs
