-- What only private clauses cite.
pub mod InHand
pub mod Taking
