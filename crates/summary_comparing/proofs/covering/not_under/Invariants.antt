use Rattle.std.proofs.Common.{◌≡◌, ◌++◌, drop}
use Rattle.summary_comparing.specs.Widest.{not_under}
use Rattle.summary_comparing.proofs.covering.not_under.Given as goal

-- those so far and those of what is left are those of all
abbrev pub invariant-loop-effect : goal.invariant-loop-effect
invariant-loop-effect l = l.left ++ not_under (drop l.effect-index l.effects) l.wide ≡ not_under l.effects l.wide
