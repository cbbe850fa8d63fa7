pub mod WaysToEnd
pub mod Makes
pub mod Meeting
pub mod Enough
