-- The links of the other tasks are as before.
use Rattle.wait_graph.proofs.AddingLemmas.{WaitsFor-added, WaitsOn-added, WaitsOnUnlessDone-added, IsDone-added, SpawnedBy-added, DescendsFrom-added, YieldsTo-added}
use Rattle.wait_graph.proofs.laws.adding_a_task.Goals as goal

pub returns-clause-waits : goal.returns-clause-waits
returns-clause-waits c = WaitsFor-added

pub returns-clause-chains : goal.returns-clause-chains
returns-clause-chains c = WaitsOn-added

pub returns-clause-done : goal.returns-clause-done
returns-clause-done c = IsDone-added

pub returns-clause-spawned : goal.returns-clause-spawned
returns-clause-spawned c = SpawnedBy-added

pub returns-clause-descents : goal.returns-clause-descents
returns-clause-descents c = DescendsFrom-added

pub returns-clause-yields : goal.returns-clause-yields
returns-clause-yields c = YieldsTo-added

pub returns-clause-unless_done : goal.returns-clause-unless_done
returns-clause-unless_done c = WaitsOnUnlessDone-added
