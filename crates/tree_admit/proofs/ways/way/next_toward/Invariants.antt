-- The node that was reached lies on the way, below the one that the way begins at.
use Rattle.std.proofs.Common.{length}
use Rattle.prefix_tree.specs.Nodes.{path_of}
use Rattle.floor_laws.specs.admission.admission_core.States.{IsAbove, ActivityIsOver}
use Rattle.tree_admit.proofs.ways.way.next_toward.Given as goal

abbrev pub invariant-loop-above : goal.invariant-loop-above
invariant-loop-above l = record {
  over : ActivityIsOver l.shape l.node l.at;
  above : IsAbove l.shape l.at l.end;
}

abbrev pub decreases-loop-above : goal.decreases-loop-above
decreases-loop-above l = length (path_of l.shape l.at)
