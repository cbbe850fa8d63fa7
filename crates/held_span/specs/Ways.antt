-- Which tasks interfere, and through which tasks one waits for another.
use Rattle.std.specs.Prelude.{◌≡◌, ◌≢◌, ℕ, List, Some, slice_get}
use Rattle.effect_sets.specs.Interference.{SomeInterfere}
use Rattle.wait_graph.specs.declared.tasks.Link.{Link}
use Rattle.wait_graph.specs.Waiting.{WaitsOn}
use Rattle.machine_state.specs.declared.state.TaskRow.{TaskRow}

-- some effects of the tasks of these two numbers interfere
pub record RowsInterfere (rows : List TaskRow) (s t : ℕ) : Type 0 where
  pub first : TaskRow
  pub second : TaskRow
  pub at_first : slice_get rows s ≡ Some first
  pub at_second : slice_get rows t ≡ Some second
  pub interfere : SomeInterfere first.effects.effects second.effects.effects

-- w is on the way from s to t: it is s, or s waits for it, directly or through others, and so does it wait for t
pub record IsOnWay (links : List Link) (s t w : ℕ) : Type 0 where
  pub reached : WaitsOn links s w
  pub waits : WaitsOn links w t
  pub other : w ≢ t
