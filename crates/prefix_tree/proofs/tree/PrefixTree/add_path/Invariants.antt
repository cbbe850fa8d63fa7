-- The node that was reached has the path of the elements so far, and the prefixes of it were added.
use Rattle.std.proofs.Common.{◌≡◌, ◌<◌, List, length, take}
use Rattle.prefix_tree.specs.declared.part.Part.{Part}
use Rattle.prefix_tree.specs.Prefix.{IsPrefix}
use Rattle.prefix_tree.specs.Nodes.{path_of}
use Rattle.prefix_tree.specs.Growth.{Grows}
use Rattle.prefix_tree.proofs.tree.PrefixTree.add_path.Given as goal

abbrev pub invariant-loop-part : goal.invariant-loop-part
invariant-loop-part l = record {
  there : l.at < length l.self;
  path : path_of l.self l.at ≡ take l.part-index l.path;
  grows : Grows l.fn.self l.self (λ (prefix : List Part). IsPrefix prefix (path_of l.self l.at));
}
