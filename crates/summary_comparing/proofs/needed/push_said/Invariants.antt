use Rattle.std.proofs.Common.{◌≡◌, ◌++◌, drop, map}
use Rattle.summary_comparing.specs.Needed.{said_effect}
use Rattle.summary_comparing.proofs.needed.push_said.Given as goal

-- the needs so far and those of what is left are those of all
abbrev pub invariant-loop-effect : goal.invariant-loop-effect
invariant-loop-effect l =
    l.needs ++ map (said_effect l.params) (drop l.effect-index l.effects) ≡ l.fn.needs ++ map (said_effect l.params) l.effects
