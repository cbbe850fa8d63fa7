use Rattle.std.proofs.Common.{◌≡◌, ◌++◌, drop}
use Rattle.summary_comparing.specs.Comparisons.{idle_effects}
use Rattle.summary_comparing.proofs.comparing.idle_effects.Given as goal

-- those so far and those of what is left are those of all
abbrev pub invariant-loop-effect : goal.invariant-loop-effect
invariant-loop-effect l =
    l.idle ++ idle_effects l.body l.children (drop l.effect-index l.declared) ≡ idle_effects l.body l.children l.declared
