-- What only private clauses and invariants cite.
pub mod Numbering
pub mod Parts
pub mod Counting
