-- The lowest so far is the first of the lowest among the tasks that were looked at.
use Rattle.std.proofs.Common.{nat_lt}
use Rattle.std.specs.List.{IsFirstBest}
use Rattle.wait_graph.proofs.walk.lowest_place.Given as goal

abbrev pub invariant-loop-i : goal.invariant-loop-i
invariant-loop-i l = IsFirstBest nat_lt l.tasks l.i l.lowest
