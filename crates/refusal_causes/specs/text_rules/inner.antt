-- What only private clauses cite.
pub mod Standing
pub mod Walked
