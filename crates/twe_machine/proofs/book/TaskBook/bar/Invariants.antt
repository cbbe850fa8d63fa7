-- The walk has come to the node of the elements so far, and those that are placed above it are no bars.
use Rattle.std.proofs.Common.{◌≡◌, ◌<◌, ◌++◌, length, drop, take}
use Rattle.std.specs.Prelude.{take_while}
use Rattle.region_paths.specs.Filled.{is_solid}
use Rattle.prefix_tree.specs.Nodes.{IsTreeOfPaths, path_of}
use Rattle.effect_tree.specs.inner.Parts.{elem_paths}
use Rattle.twe_machine.proofs.listing.Books.{AbovePass}
use Rattle.twe_machine.proofs.book.TaskBook.bar.Given as goal

abbrev pub invariant-loop-elem : goal.invariant-loop-elem
invariant-loop-elem l = record {
  there : l.at < length l.self.tree;
  tree : IsTreeOfPaths l.self.tree;
  front : path_of (elem_paths l.self.tree) l.at ++ take_while is_solid (drop l.elem-index l.elems) ≡ take_while is_solid l.elems;
  path : path_of (elem_paths l.self.tree) l.at ≡ take l.elem-index l.elems;
  passed : AbovePass l.st l.t l.self l.at;
}
