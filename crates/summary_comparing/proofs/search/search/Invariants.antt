use Rattle.std.proofs.Common.{◌≤◌, length}
use Rattle.summary_comparing.specs.inner.Search.{AreDone, ComeInOrder, StatesGrow}
use Rattle.summary_comparing.proofs.search.search.Given as goal

-- the states so far are done with
abbrev pub invariant-loop-at : goal.invariant-loop-at
invariant-loop-at l = record {
  grows : StatesGrow l.bodies l.target l.fn.states l.states;
  done : AreDone l.bodies l.target l.states l.at;
  order : ComeInOrder l.states l.at;
  inside : l.at ≤ length l.states;
}
