-- The node that was reached has the path of the solid elements so far.
use Rattle.std.proofs.Common.{◌≡◌, ◌<◌, ◌++◌, length, drop}
use Rattle.std.specs.Prelude.{take_while}
use Rattle.region_paths.specs.Filled.{is_solid}
use Rattle.prefix_tree.specs.Nodes.{path_of}
use Rattle.effect_tree.proofs.shape.Shape.deepest.Given as goal

abbrev pub invariant-loop-elem : goal.invariant-loop-elem
invariant-loop-elem l = record {
  there : l.at < length l.self;
  front : path_of l.self l.at ++ take_while is_solid (drop l.elem-index l.elems) ≡ take_while is_solid l.elems;
}
