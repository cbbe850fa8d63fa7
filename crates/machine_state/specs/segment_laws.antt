pub mod Left
pub mod Passes
pub mod Operations
pub mod Keeps
pub mod Ready
