-- Yielding is a chain of waits and a chain of descent that end at one task.
use Rattle.wait_graph.specs.Chain.{none}
use Rattle.wait_graph.proofs.ChainLemmas.{Chain-append}
use Rattle.wait_graph.proofs.WaitingLemmas.{YieldsTo-alone, YieldsTo-rootless}
use Rattle.wait_graph.proofs.laws.yielding_follows_chains.Goals as goal

pub returns-clause-along_waits : goal.returns-clause-along_waits
returns-clause-along_waits c = λ links s u t chain yield. (yield.0, Chain-append chain yield.1, yield.2)

pub returns-clause-along_descents : goal.returns-clause-along_descents
returns-clause-along_descents c = λ links s t c yield chain. (yield.0, yield.1, Chain-append chain yield.2)

pub returns-clause-without_wait : goal.returns-clause-without_wait
returns-clause-without_wait c = λ links s t nobody. (λ yield. YieldsTo-alone nobody yield, λ chain. (s, none, chain))

pub returns-clause-without_parent : goal.returns-clause-without_parent
returns-clause-without_parent c = λ links s t alone. (λ yield. YieldsTo-rootless alone yield, λ chain. (t, chain, none))
