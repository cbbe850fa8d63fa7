use Rattle.std.proofs.Common.{◌<◌, length}
use Rattle.summary_comparing.proofs.Walking.{HasCome}
use Rattle.summary_comparing.proofs.walk.walk_up.Given as goal

-- the places so far lead from the method of this state to the access
abbrev pub invariant-loop-now : goal.invariant-loop-now
invariant-loop-now l = record {
  inside : l.now < length l.states;
  come : HasCome l.p l.target l.states l.at l.now l.back;
}

abbrev pub decreases-loop-now : goal.decreases-loop-now
decreases-loop-now l = l.now
