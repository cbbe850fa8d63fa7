-- The records from here on were passed over.
use Rattle.std.proofs.Common.{◌≤◌, IsTrue}
use Rattle.tree_admit.specs.Passing.{EachBetween, is_passed_over}
use Rattle.tree_admit.proofs.passing.pass_over.Given as goal

abbrev pub invariant-loop-rest : goal.invariant-loop-rest
invariant-loop-rest l = record {
  fewer : l.rest ≤ l.left;
  passed : EachBetween (λ r. IsTrue (is_passed_over l.task l.effect l.at r)) l.content l.rest l.left;
}

abbrev pub decreases-loop-rest : goal.decreases-loop-rest
decreases-loop-rest l = l.rest
