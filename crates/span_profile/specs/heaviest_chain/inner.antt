-- What only private clauses cite.
pub mod Following
pub mod Fronts
pub mod Tops
