pub mod Keeping
pub mod Found
pub mod Listed
pub mod KeptPlaces
pub mod Traced
pub mod Reached
