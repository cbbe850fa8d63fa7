-- The record is none of those from here on.
use Rattle.std.proofs.Common.{◌≢◌, ◌≤◌, ℕ, Some, length}
use Rattle.std.specs.Prelude.{slice_get}
use Rattle.floor_laws.proofs.table.nodes.content.place_of.Given as goal

abbrev pub invariant-loop-at : goal.invariant-loop-at
invariant-loop-at l = record {
  within : l.at ≤ length l.records;
  none : (k : ℕ) → l.at ≤ k → slice_get l.records k ≢ Some (record { task = l.task; effect = l.effect; node = l.node });
}

abbrev pub decreases-loop-at : goal.decreases-loop-at
decreases-loop-at l = l.at
