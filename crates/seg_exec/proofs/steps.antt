-- What the small steps of the machine come to.

-- The machine does what the meaning says, and so it does from what remains of a body.
pub mod Simulation
pub mod Whole
-- What remains of a body, as work of the machine.
pub mod Unfolding
-- Steps over cells of any kind.
pub mod Witnesses
pub mod Reaching
-- The variables of the active bodies.
pub mod Callers
pub mod Parts
-- The active calls.
pub mod Calls
-- Each step takes a unit of fuel or leaves less work.
pub mod Falling
