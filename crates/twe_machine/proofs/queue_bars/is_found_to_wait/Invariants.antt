-- The waits lead to the task that was reached, and upwards.
use Rattle.std.proofs.Common.{◌-◌, length}
use Rattle.wait_graph.specs.Waiting.{WaitsOn}
use Rattle.twe_machine.proofs.queue_bars.is_found_to_wait.Given as goal

abbrev pub invariant-walking : goal.invariant-walking
invariant-walking l = WaitsOn l.st.links l.s l.at

abbrev pub decreases-walking : goal.decreases-walking
decreases-walking l = length l.st.links - l.at
