use Rattle.std.proofs.Common.{◌≡◌}
use Rattle.task_floor.proofs.Rotations.{turns}
use Rattle.task_floor.proofs.turning.turn_slots.Given as goal

abbrev pub invariant-loop-i : goal.invariant-loop-i
invariant-loop-i l = record {
  turned : l.stand.me ≡ (l.initial.stand.me.0, turns l.i l.initial.stand.me.1);
  same : (l.stand.table_id ≡ l.initial.stand.table_id) × (l.stand.id ≡ l.initial.stand.id);
}
