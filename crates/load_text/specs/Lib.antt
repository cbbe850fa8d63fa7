pub mod Text
pub mod accepted
