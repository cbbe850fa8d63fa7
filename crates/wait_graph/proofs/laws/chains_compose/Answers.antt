-- Both are chains of steps.
use Rattle.wait_graph.proofs.ChainLemmas.{Chain-append}
use Rattle.wait_graph.proofs.laws.chains_compose.Goals as goal

pub returns-clause-waits : goal.returns-clause-waits
returns-clause-waits c = λ links s u v chain others. Chain-append chain others

pub returns-clause-descents : goal.returns-clause-descents
returns-clause-descents c = λ links t u v chain others. Chain-append chain others
