-- The records from here on are at ease or wait, and the stand has only followed waits.
use Rattle.std.proofs.Common.{◌≡◌}
use Rattle.tree_admit.specs.Going.{HasOnlyFollowed}
use Rattle.tree_admit.specs.Passing.{EachBetween, EaseOrWaits}
use Rattle.tree_admit.proofs.testing.first_pass.Given as goal

abbrev pub invariant-loop-left : goal.invariant-loop-left
invariant-loop-left g l = record {
  passes : EachBetween (EaseOrWaits l.stand.me.0.waits l.task l.effect) l.content l.left l.first;
  only : HasOnlyFollowed l.fn.stand.me l.stand.me;
  here : l.stand.table_id ≡ l.fn.stand.table_id;
  id : l.stand.id ≡ l.fn.stand.id;
}

abbrev pub decreases-loop-left : goal.decreases-loop-left
decreases-loop-left g l = l.left
