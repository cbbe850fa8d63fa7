-- The nodes so far were put into the lists of those right above them.
use Rattle.std.proofs.Common.{◌≤◌}
use Rattle.effect_tree.specs.inner.Children.{items_of, HasChildrenBelow}
use Rattle.effect_tree.proofs.children.children.Given as goal

abbrev pub invariant-loop-n : goal.invariant-loop-n
invariant-loop-n l = record {
  inner : 1 ≤ l.n;
  within : l.n ≤ l.count;
  before : HasChildrenBelow l.tree (items_of l.lists) l.n;
}
