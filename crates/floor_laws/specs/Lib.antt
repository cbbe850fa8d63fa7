pub mod admission
pub mod rule
pub mod table
