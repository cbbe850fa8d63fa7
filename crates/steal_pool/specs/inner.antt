pub mod Single
pub mod Making
