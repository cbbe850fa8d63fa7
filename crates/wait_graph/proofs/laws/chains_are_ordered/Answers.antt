-- Each step of such a chain is ordered so.
use Rattle.wait_graph.proofs.WaitingLemmas.{WaitsOn-up, DescendsFrom-down}
use Rattle.wait_graph.proofs.laws.chains_are_ordered.Goals as goal

pub returns-clause-waits_up : goal.returns-clause-waits_up
returns-clause-waits_up c = λ links s u ordered chain. WaitsOn-up ordered chain

pub returns-clause-descents_down : goal.returns-clause-descents_down
returns-clause-descents_down c = λ links t u ordered chain. DescendsFrom-down ordered chain
