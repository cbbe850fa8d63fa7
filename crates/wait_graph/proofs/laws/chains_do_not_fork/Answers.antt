-- A task waits for one task at most, and has one parent at most.
use Rattle.wait_graph.proofs.ChainLemmas.{Chain-fork}
use Rattle.wait_graph.proofs.WaitingLemmas.{WaitsFor-one, SpawnedBy-one}
use Rattle.wait_graph.proofs.laws.chains_do_not_fork.Goals as goal

pub returns-clause-waits : goal.returns-clause-waits
returns-clause-waits c = λ links s u v chain other. Chain-fork (λ x y z. WaitsFor-one) chain other

pub returns-clause-descents : goal.returns-clause-descents
returns-clause-descents c = λ links t u v chain other. Chain-fork (λ x y z. SpawnedBy-one) chain other
