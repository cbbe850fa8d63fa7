-- What only private clauses and invariants cite.
pub mod Freeing
pub mod Holding
pub mod Keys
pub mod Noting
pub mod Paths
pub mod Ranks
pub mod Spanning
pub mod Tallies
pub mod Told
pub mod Walking
