-- A run at rest.
pub mod StillRuns
-- A run at rest goes on from what it was.
pub mod GoingOn
-- The main stand of a round.
pub mod MainStand
-- The journal of a round begins with the one from before it.
pub mod FirstEntries
-- The ground may be shared by threads.
pub mod Crossing
-- What a quiet step or a round does to a run, as what it does to its crew.
pub mod QuietSteps
-- A lower limit on tasks changes nothing of a run as long as fewer tasks were asked for.
pub mod TaskLimits
-- The run from before a round is there after it.
pub mod Discarding
