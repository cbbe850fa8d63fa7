-- The elements so far were added.
use Rattle.prefix_tree.specs.Nodes.{path_of}
use Rattle.prefix_tree.specs.Growth.{Grows, IsRowElement}
use Rattle.prefix_tree.proofs.tree.PrefixTree.add_row.Given as goal

abbrev pub invariant-loop-i : goal.invariant-loop-i
invariant-loop-i l = Grows l.fn.self l.self (IsRowElement (path_of l.fn.self l.at) l.i)
