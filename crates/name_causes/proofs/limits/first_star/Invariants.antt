use Rattle.std.proofs.Common.{◌≡◌, drop}
use Rattle.name_causes.specs.Others.{first_star}
use Rattle.name_causes.proofs.limits.first_star.Given as goal

-- what is left has the first star
abbrev pub invariant-loop-elem : goal.invariant-loop-elem
invariant-loop-elem l = first_star (drop l.elem-index l.elems) ≡ first_star l.elems
