-- The links of the other tasks, and what else this one has, are as before.
use Rattle.wait_graph.proofs.SettingLemmas.{WaitsFor-with_done, IsDone-with_done, SpawnedBy-with_done, DescendsFrom-with_done}
use Rattle.wait_graph.proofs.laws.setting_a_task_done.Goals as goal

pub returns-clause-waits : goal.returns-clause-waits
returns-clause-waits c = WaitsFor-with_done

pub returns-clause-done : goal.returns-clause-done
returns-clause-done c = IsDone-with_done

pub returns-clause-spawned : goal.returns-clause-spawned
returns-clause-spawned c = SpawnedBy-with_done

pub returns-clause-descents : goal.returns-clause-descents
returns-clause-descents c = DescendsFrom-with_done
