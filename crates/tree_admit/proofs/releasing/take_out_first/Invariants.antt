-- The records of the effects so far are taken out.
use Rattle.std.proofs.Common.{◌≡◌}
use Rattle.tree_admit.specs.Attempts.{HasTakenOutFirst}
use Rattle.tree_admit.proofs.releasing.take_out_first.Given as goal

abbrev pub invariant-loop-number : goal.invariant-loop-number
invariant-loop-number g l = record {
  out : HasTakenOutFirst g.N.Planted.nodes l.task l.effects l.number l.initial.stand.me l.stand.me;
  same : (l.stand.table_id ≡ l.initial.stand.table_id) × (l.stand.id ≡ l.initial.stand.id);
}
