-- The rows so far were added, with their elements.
use Rattle.prefix_tree.specs.Nodes.{path_of}
use Rattle.prefix_tree.specs.Growth.{Grows, IsGridElement}
use Rattle.prefix_tree.proofs.tree.PrefixTree.add_grid.Given as goal

abbrev pub invariant-loop-i : goal.invariant-loop-i
invariant-loop-i l = Grows l.fn.self l.self (IsGridElement (path_of l.fn.self l.at) l.i l.columns)
