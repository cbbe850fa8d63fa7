-- A wait of a done task is none.
use Rattle.wait_graph.proofs.WaitingLemmas.{WaitsForNobody-waits}
use Rattle.wait_graph.proofs.laws.waiting_for_nobody.Goals as goal

pub returns : goal.returns
returns c = WaitsForNobody-waits
