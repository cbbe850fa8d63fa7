-- What a step of the floor tells a stand that has nodes beside it.
pub mod Told
-- Segments over a stand.
pub mod Touching
pub mod InHand
pub mod Carrying
-- Turns that were taken, that are given, and tasks that are left.
pub mod Taking
pub mod LeavingTasks
-- Trying to lock a node.
pub mod Tries
-- The order of slots.
pub mod Rotations
-- Contents that are taken out and given back.
pub mod Givings
-- The start: the records of enabled tasks, what lies at each node, and the words and slots that show all of it.
pub mod Gathered
pub mod Sorted
pub mod Planted
-- The end.
pub mod Emptied
-- A task in hand, and what is found of it.
pub mod Forgetting
pub mod Looking
pub mod Valuing
pub mod GoingOn
pub mod Alone
-- Entries, and the tasks that they make.
pub mod Bringing
pub mod DrawnBeside
-- A worker that serves a task.
pub mod ServedBeside
pub mod CommittedBeside
