-- The task that was reached is t or an ancestor of it, u is an ancestor of t only if it is one of that task, and a parent has a lower number.
use Rattle.std.proofs.Common.{◌<◌, length}
use Rattle.wait_graph.specs.Waiting.{DescendsFrom}
use Rattle.wait_graph.proofs.chains.descends_from.Given as goal

abbrev pub invariant-loop-at : goal.invariant-loop-at
invariant-loop-at l = record {
  within : l.at < length l.links;
  chain : DescendsFrom l.links l.t l.at;
  only : DescendsFrom l.links l.t l.u → DescendsFrom l.links l.at l.u;
}

abbrev pub decreases-loop-at : goal.decreases-loop-at
decreases-loop-at l = l.at
