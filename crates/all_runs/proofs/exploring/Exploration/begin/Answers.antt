use Rattle.std.proofs.Common.{subst}
use Rattle.machine_state.specs.declared.state.State.{State}
use Rattle.all_runs.specs.Explored.{IsKnown}
use Rattle.all_runs.proofs.exploring.Exploration.begin.Goals as goal

pub returns : goal.returns
returns c = record {
  found = c.add.ensures.found;
  start = subst (λ (st : State). IsKnown c.add.new.self.going c.add.new.self.ended st) c.in_ok-state.ensures c.in_ok-add.ensures.known;
}
