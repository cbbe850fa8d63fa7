use Rattle.std.proofs.Common.{◌≡◌, ◌++◌, replicate}
use Rattle.task_floor.proofs.planting.add_zeros.Given as goal

abbrev pub invariant-loop-i : goal.invariant-loop-i
invariant-loop-i l = l.words ≡ l.initial.words ++ replicate l.i 0
