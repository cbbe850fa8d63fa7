pub mod Covers
pub mod Interference
pub mod Filled
pub mod Access
