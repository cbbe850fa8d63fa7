-- What views know, and what of contents is known after a change.
pub mod Alone
pub mod Learning
pub mod Contents
-- The steps of a worker in the tree.
pub mod Steps
pub mod Marks
pub mod Entering
pub mod Following
pub mod Chained
-- Records that are passed over.
pub mod Between
pub mod PassedOver
pub mod Decided
pub mod Finishing
pub mod Taking
pub mod Stepping
pub mod Descending
pub mod Putting
pub mod Owning
pub mod Wandering
pub mod Looking
-- All effects of a task.
pub mod Attempts
