-- The search for a chain of calls.
pub mod Elements
pub mod Carried
pub mod Places
pub mod Linked
pub mod Complete
pub mod Depths
pub mod Walking
pub mod Shortest
-- What is declared, beside what is needed.
pub mod Covers
pub mod Tops
pub mod Keeping
pub mod Compared
pub mod Idle
pub mod SameEffects
pub mod Origins
pub mod Numbered
pub mod Ordered
pub mod Chained
pub mod SpawnLines
