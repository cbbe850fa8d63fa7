pub mod WordAt
pub mod Excerpt
pub mod Notes
