-- When equalities hold, and what solves them.
pub mod Exactness
pub mod Solutions
pub mod Meetings
-- Columns of the elements of paths.
pub mod Aligning
pub mod Solving
pub mod Forcing
pub mod Along
pub mod CellLaws
pub mod Apartness
-- What holds in one call.
pub mod OneCall
