-- A chain of waits leads to the task that was reached, and each wait leads upwards.
use Rattle.std.proofs.Common.{◌-◌, ◌<◌, length}
use Rattle.wait_graph.specs.Waiting.{WaitsOn}
use Rattle.wait_graph.proofs.chains.end_of_waits.Given as goal

abbrev pub invariant-loop-next : goal.invariant-loop-next
invariant-loop-next l = record { within : l.end < length l.links; chain : WaitsOn l.links l.t l.end }

abbrev pub decreases-loop-next : goal.decreases-loop-next
decreases-loop-next l = length l.links - l.end
