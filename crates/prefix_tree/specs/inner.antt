-- What only private clauses and invariants cite.
pub mod Same
pub mod Tables
