-- What only private clauses and invariants cite.
pub mod Deeds
pub mod Numbering
pub mod Sets
pub mod Shows
pub mod Tracked
pub mod Trails
pub mod Watch
