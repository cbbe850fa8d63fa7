-- the entry that enabled a task
pub mod Enabling
-- the entry that finished it
pub mod Finishing
-- so a deterministic task that is done has its sequential result
pub mod Results
-- if main is deterministic, all tasks are below it
pub mod MainTree
-- the cells and the printed numbers of a run are those of its segments
pub mod WholeRun
-- the tasks that main spawned, directly or not, are all tasks
pub mod TaskCount
-- so a run whose main is deterministic has the result of main
pub mod MainResult
