-- A chain comes to a task that waits for nobody only at its end.
use Rattle.wait_graph.proofs.SettingLemmas.{WaitsOn-with_done, WaitsOnUnlessDone-with_done, YieldsTo-with_done}
use Rattle.wait_graph.proofs.laws.a_done_task_that_waited_for_nobody_ends_no_other_chain.Goals as goal

pub returns-clause-waits : goal.returns-clause-waits
returns-clause-waits c = WaitsOn-with_done

pub returns-clause-unless_done : goal.returns-clause-unless_done
returns-clause-unless_done c = WaitsOnUnlessDone-with_done

pub returns-clause-yields : goal.returns-clause-yields
returns-clause-yields c = YieldsTo-with_done
