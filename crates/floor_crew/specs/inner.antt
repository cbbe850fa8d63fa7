-- What only private clauses cite.
pub mod Lent
pub mod GoingOn
pub mod Keeping
