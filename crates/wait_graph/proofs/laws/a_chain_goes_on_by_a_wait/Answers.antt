-- A wait of a done task is no step, and one of another task is the last step.
use Rattle.wait_graph.proofs.WaitingLemmas.{WaitsOnUnlessDone-push}
use Rattle.wait_graph.proofs.laws.a_chain_goes_on_by_a_wait.Goals as goal

pub returns : goal.returns
returns c = λ links s u v chain live wait. WaitsOnUnlessDone-push chain live wait
