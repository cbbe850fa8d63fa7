-- No chain has a step from a task that waits for nobody.
use Rattle.wait_graph.proofs.SettingLemmas.{WaitsOn-with_wait, WaitsOnUnlessDone-with_wait, YieldsTo-with_wait, WaitsOn-without_wait}
use Rattle.wait_graph.proofs.laws.a_wait_set_where_none_was_keeps_chains.Goals as goal

pub returns-clause-waits : goal.returns-clause-waits
returns-clause-waits c = WaitsOn-with_wait

pub returns-clause-unless_done : goal.returns-clause-unless_done
returns-clause-unless_done c = WaitsOnUnlessDone-with_wait

pub returns-clause-yields : goal.returns-clause-yields
returns-clause-yields c = YieldsTo-with_wait

pub returns-clause-taken_away : goal.returns-clause-taken_away
returns-clause-taken_away c = WaitsOn-without_wait
