pub mod Keeping
pub mod Crews
