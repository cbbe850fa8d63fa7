-- As long as the lock was not free, the stand is as it was.
use Rattle.std.proofs.Common.{◌≡◌}
use Rattle.tree_admit.proofs.locking.lock_child.Given as goal

abbrev pub invariant-loop : goal.invariant-loop
invariant-loop g l = record { me : l.stand.me ≡ l.fn.stand.me; here : l.stand.table_id ≡ l.fn.stand.table_id; id : l.stand.id ≡ l.fn.stand.id }
