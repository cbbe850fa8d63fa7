-- The links of the other tasks, and what else this one has, are as before.
use Rattle.wait_graph.proofs.SettingLemmas.{WaitsFor-with_joined, WaitsOn-with_joined, WaitsOnUnlessDone-with_joined, IsDone-with_joined, SpawnedBy-with_joined, DescendsFrom-with_joined, YieldsTo-with_joined, YieldsTo-joined}
use Rattle.wait_graph.proofs.laws.setting_a_task_joined.Goals as goal

pub returns-clause-waits : goal.returns-clause-waits
returns-clause-waits c = WaitsFor-with_joined

pub returns-clause-chains : goal.returns-clause-chains
returns-clause-chains c = WaitsOn-with_joined

pub returns-clause-done : goal.returns-clause-done
returns-clause-done c = IsDone-with_joined

pub returns-clause-spawned : goal.returns-clause-spawned
returns-clause-spawned c = SpawnedBy-with_joined

pub returns-clause-descents : goal.returns-clause-descents
returns-clause-descents c = DescendsFrom-with_joined

pub returns-clause-yields : goal.returns-clause-yields
returns-clause-yields c = YieldsTo-with_joined

pub returns-clause-joined : goal.returns-clause-joined
returns-clause-joined c = YieldsTo-joined

pub returns-clause-unless_done : goal.returns-clause-unless_done
returns-clause-unless_done c = WaitsOnUnlessDone-with_joined
