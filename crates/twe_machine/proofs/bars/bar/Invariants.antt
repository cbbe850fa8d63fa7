use Rattle.std.proofs.Common.{◌<◌, ◌≢◌, ℕ}
use Rattle.machine_state.specs.declared.state.TaskStatus.TheVariants.{Enabled}
use Rattle.machine_state.specs.Legal.{Interfere, IsBar}
use Rattle.machine_state.specs.Rows.{HasStatus}
use Rattle.wait_graph.specs.Waiting.{YieldsTo}
use Rattle.twe_machine.proofs.bars.bar.Given as goal

abbrev pub invariant-loop-s : goal.invariant-loop-s
invariant-loop-s l = record {
  no_bar : (r : ℕ) → r < l.s → ¬ IsBar l.st r l.t;
  free : (r : ℕ) → r < l.s → r ≢ l.t → HasStatus l.st r Enabled → Interfere l.st r l.t → YieldsTo l.st.links r l.t;
}
