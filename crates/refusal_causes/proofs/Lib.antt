-- What is kept of places, and the way along a trail, one step at a time.
pub mod KeptLaws
-- A way after statements is that along a trail which goes on through them; where there is none, no path has such.
pub mod TracedLaws
pub mod TracedFacts
-- The same of the ways to a point.
pub mod ReachedLaws
pub mod ReachedFacts
-- None has more places than another trail to the point, after which the future is the same.
pub mod Settled
pub mod Fewest
-- Both together, for a body.
pub mod Whole
-- A trail without its tests is a control path.
pub mod Trails
-- Causes of rules that stop before the rules on effects.
mod Early
-- What is needed, what bars it, and that nothing fails if no cause is found.
pub mod Needs
pub mod Covering
pub mod Joins
pub mod Complete
-- Where a future may be out, or is not surely out, there is a way that shows it.
pub mod WaysThere
-- The steps of the searches.
pub mod Loops
-- One token more that is tried.
pub mod Following
-- All failures: the map that they are in, why each one fails, and that nothing else does.
pub mod Entries
pub mod Listed
pub mod Kept
-- What is made nowhere.
pub mod Unmade
