use Rattle.std.proofs.Common.{◌≡◌, [], replicate}
use Rattle.task_floor.proofs.sorting.empty_contents.Given as goal

abbrev pub invariant-loop-i : goal.invariant-loop-i
invariant-loop-i l = l.contents ≡ replicate l.i []
