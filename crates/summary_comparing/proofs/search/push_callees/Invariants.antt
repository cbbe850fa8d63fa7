use Rattle.summary_comparing.specs.inner.Search.{CallsListed, ComeInOrder, StatesGrow}
use Rattle.summary_comparing.proofs.search.push_callees.Given as goal

-- the states of the calls so far are listed
abbrev pub invariant-loop-step : goal.invariant-loop-step
invariant-loop-step l = record {
  grows : StatesGrow l.bodies l.target l.fn.states l.states;
  order : ComeInOrder l.states l.at;
  listed : CallsListed l.bodies l.target l.states l.at l.values l.steps l.step;
}
