use Rattle.wait_graph.proofs.SomeRoundLemmas.{stuck_cycle_goes_round}
use Rattle.wait_graph.proofs.laws.a_stuck_cycle_goes_round.Goals as goal

pub returns : goal.returns
returns c links held t ordered all undone = stuck_cycle_goes_round links held ordered all t undone
