use Rattle.std.proofs.Common.{◌≡◌, ◌++◌, drop, map}
use Rattle.region_paths.specs.Filled.{fill_elem}
use Rattle.effect_infer.proofs.widen.filled_elems.Given as goal

-- the elements so far and those of what is left are those of all
abbrev pub invariant-loop-elem : goal.invariant-loop-elem
invariant-loop-elem l = l.filled ++ map (fill_elem l.args) (drop l.elem-index l.elems) ≡ map (fill_elem l.args) l.elems
