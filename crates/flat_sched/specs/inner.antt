-- What only private clauses cite.
pub mod Lists
pub mod Groups
pub mod Books
