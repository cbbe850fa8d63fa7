-- What only private clauses and invariants cite.
pub mod Parts
pub mod Growth
pub mod Children
