-- Several steps of the machine, done at once.

-- One stretch of steps after another.
pub mod Strides
pub mod Moving
-- What is done at once for a continuation frame.
pub mod Performing
pub mod Returning
pub mod GivenBack
pub mod Applying
-- Expressions and assignments that call no method.
pub mod Evaluating
pub mod Assigning
-- Statements, arguments and the arms of an `if`, one after another.
pub mod GoingOn
pub mod Carrying
pub mod Turning
pub mod Gathering
pub mod Picking
pub mod Branching
