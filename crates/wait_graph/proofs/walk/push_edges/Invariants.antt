-- The edges of the tasks so far stand after the others.
use Rattle.std.proofs.Common.{◌≡◌, ◌++◌, map, take}
use Rattle.wait_graph.specs.StuckCycle.{edge_from}
use Rattle.wait_graph.proofs.walk.push_edges.Given as goal

abbrev pub invariant-loop-t : goal.invariant-loop-t
invariant-loop-t l = l.edges.items ≡ l.fn.edges.items ++ map (edge_from l.links l.held) (take l.t-index l.tasks)
