pub mod Beginnings
pub mod Comments
pub mod Fronts
pub mod Heads
pub mod Longest
