pub mod Clauses
pub mod Pasted
pub mod places
