use Rattle.std.proofs.Common.{◌≡◌, false, drop}
use Rattle.name_check.specs.OtherFailures.{second_star}
use Rattle.name_check.proofs.limits.second_star.Given as goal

-- what is left has the second star
abbrev pub invariant-loop-elem : goal.invariant-loop-elem
invariant-loop-elem l = second_star l.before (drop l.elem-index l.elems) ≡ second_star false l.elems
