use Rattle.std.proofs.Common.{◌≡◌, ◌++◌, drop}
use Rattle.summary_comparing.proofs.covering.copy_effects.Given as goal

-- those so far and those that are left are all
abbrev pub invariant-loop-effect : goal.invariant-loop-effect
invariant-loop-effect l = l.copy ++ drop l.effect-index l.effects ≡ l.effects
