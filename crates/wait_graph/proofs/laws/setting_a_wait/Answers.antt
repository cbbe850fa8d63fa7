-- The links of the other tasks, and what else this one has, are as before.
use Rattle.wait_graph.proofs.SettingLemmas.{WaitsFor-with_wait_other, WaitsFor-with_wait_same, IsDone-with_wait, SpawnedBy-with_wait, DescendsFrom-with_wait}
use Rattle.wait_graph.proofs.laws.setting_a_wait.Goals as goal

pub returns-clause-others : goal.returns-clause-others
returns-clause-others c = WaitsFor-with_wait_other

pub returns-clause-own : goal.returns-clause-own
returns-clause-own c = WaitsFor-with_wait_same

pub returns-clause-done : goal.returns-clause-done
returns-clause-done c = IsDone-with_wait

pub returns-clause-spawned : goal.returns-clause-spawned
returns-clause-spawned c = SpawnedBy-with_wait

pub returns-clause-descents : goal.returns-clause-descents
returns-clause-descents c = DescendsFrom-with_wait
