pub mod Bare
pub mod Alike
