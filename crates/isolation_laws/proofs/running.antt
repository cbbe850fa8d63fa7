-- Each access of a task that may run is covered for it.
pub mod Covered
-- The accesses of two tasks that may run do not conflict.
pub mod Movers
