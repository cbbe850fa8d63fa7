-- How the laws of orders are proved, in the order in which to read the files.
--
-- What a task keeps over the moves of a journal: its effects, its parent, and that it is over.
pub mod TasksStay
-- Who yields to a task goes on yielding to it until that task is done.
pub mod Yielding
-- Of two enabled tasks that interfere, the one that was enabled before the other yields to it.
pub mod Enabling
-- Tasks are enabled one by one, so of two that are enabled one was enabled before the other.
pub mod OneByOne
-- Who yields to another task has a lower number, so the order of enabling is that of the numbers.
pub mod Numbers
-- The task that was admitted last decides for those before it.
pub mod Deciding
-- Each task has one maker at most, by whom alone it is waited for.
pub mod Makers
pub mod WaitPaths
