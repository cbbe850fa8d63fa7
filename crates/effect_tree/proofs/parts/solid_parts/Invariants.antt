-- The parts so far are the solid elements so far.
use Rattle.std.proofs.Common.{◌≡◌, ◌++◌, map, drop}
use Rattle.std.specs.Prelude.{take_while}
use Rattle.region_paths.specs.Filled.{is_solid}
use Rattle.effect_tree.specs.inner.Parts.{elem_of}
use Rattle.effect_tree.proofs.parts.solid_parts.Given as goal

abbrev pub invariant-loop-elem : goal.invariant-loop-elem
invariant-loop-elem l = map elem_of l.parts.items ++ take_while is_solid (drop l.elem-index l.elems) ≡ take_while is_solid l.elems
