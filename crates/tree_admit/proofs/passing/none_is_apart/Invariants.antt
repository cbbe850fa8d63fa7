-- Those before are of the task, or may interfere with its effect.
use Rattle.std.proofs.Common.{IsTrue}
use Rattle.tree_admit.specs.Passing.{EachBetween, is_own_or_meets}
use Rattle.tree_admit.proofs.passing.none_is_apart.Given as goal

abbrev pub invariant-loop-at : goal.invariant-loop-at
invariant-loop-at l = EachBetween (λ r. IsTrue (is_own_or_meets l.task l.effect r)) l.content 0 l.at
