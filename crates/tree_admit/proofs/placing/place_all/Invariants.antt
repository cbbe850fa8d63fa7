-- The records of the effects so far are placed.
use Rattle.std.proofs.Common.{◌≡◌}
use Rattle.tree_admit.specs.Attempts.{HasPlacedFirst}
use Rattle.tree_admit.proofs.placing.place_all.Given as goal

abbrev pub invariant-loop-number : goal.invariant-loop-number
invariant-loop-number g l = record {
  placed : HasPlacedFirst g.N.Planted.nodes l.task l.effects l.number l.initial.stand.me l.stand.me;
  same : (l.stand.table_id ≡ l.initial.stand.table_id) × (l.stand.id ≡ l.initial.stand.id);
}
