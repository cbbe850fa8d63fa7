pub mod Stops
pub mod Placing
