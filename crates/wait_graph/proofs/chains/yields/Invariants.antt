-- A chain of waits leads to the task that was reached, s yields to t only if that task does, and each wait leads upwards.
use Rattle.std.proofs.Common.{◌-◌, ◌<◌, length}
use Rattle.wait_graph.specs.Waiting.{WaitsOn, YieldsTo}
use Rattle.wait_graph.proofs.chains.yields.Given as goal

abbrev pub invariant-loop-at : goal.invariant-loop-at
invariant-loop-at l = record {
  within : l.at < length l.links;
  chain : WaitsOn l.links l.s l.at;
  only : YieldsTo l.links l.s l.t → YieldsTo l.links l.at l.t;
}

abbrev pub decreases-loop-at : goal.decreases-loop-at
decreases-loop-at l = length l.links - l.at
