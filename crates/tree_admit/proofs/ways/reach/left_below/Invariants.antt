-- As many elements were left out as the node that was reached lies above the one that the walk began at.
use Rattle.std.proofs.Common.{◌≡◌, ◌<◌, ◌≤◌, ◌-◌, length}
use Rattle.prefix_tree.specs.Nodes.{path_of}
use Rattle.tree_admit.proofs.ways.reach.left_below.Given as goal

abbrev pub invariant-loop-above : goal.invariant-loop-above
invariant-loop-above l = record {
  there : l.at < length l.shape;
  higher : length (path_of l.shape l.at) ≤ length (path_of l.shape l.node);
  left : l.left ≡ l.count - (length (path_of l.shape l.node) - length (path_of l.shape l.at));
}

abbrev pub decreases-loop-above : goal.decreases-loop-above
decreases-loop-above l = length (path_of l.shape l.at)
