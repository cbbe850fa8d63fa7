-- What only private clauses cite.
pub mod Best
pub mod Chosen
pub mod Drawn
pub mod Known
pub mod Taken
