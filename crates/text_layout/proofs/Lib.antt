pub mod Again
pub mod Fine
pub mod SameKinds
pub mod Settling
pub mod Standing
pub mod Trimmed
pub mod Whole
