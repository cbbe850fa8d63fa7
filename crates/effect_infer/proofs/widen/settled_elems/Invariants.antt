use Rattle.std.proofs.Common.{◌≡◌, ◌++◌, drop, map}
use Rattle.effect_infer.specs.needs.Needs.{settled_elem}
use Rattle.effect_infer.proofs.widen.settled_elems.Given as goal

-- the elements so far and those of what is left are those of all
abbrev pub invariant-loop-elem : goal.invariant-loop-elem
invariant-loop-elem l = l.settled ++ map (settled_elem l.params) (drop l.elem-index l.elems) ≡ map (settled_elem l.params) l.elems
