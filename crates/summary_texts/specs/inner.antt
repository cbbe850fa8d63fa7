-- What only private clauses cite.
pub mod LineClauses
pub mod Steps
