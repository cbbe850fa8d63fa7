-- a wait is for a future that stands for a task
pub mod WaitsStand
-- segments of renumbered frames
pub mod Renumbered
-- renumbered frames between their segments
pub mod BetweenSegments
-- segments over cells that have the values that they read
pub mod Alike
-- unjoined children, and the values that are kept for them
pub mod KeptValues
-- what was played by frames with other numbers is the sequential execution
pub mod Playing
-- numberings that a list of different numbers gives
pub mod Listed
