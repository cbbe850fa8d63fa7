-- Lists of needs, one after another.
pub mod Listing
-- The steps of a walk over a body.
pub mod Walking
-- Each failure has a need that breaks its rule, or is one of two more.
pub mod Complete
pub mod Resting
