-- The effects of an unjoined child lie inside those of its parent by the test on paths.
pub mod Inside
-- What a task that waits, that has a child or that is not admitted yet is.
pub mod Statuses
-- A task whose last entry made a task waits for nobody.
pub mod LastMakers
