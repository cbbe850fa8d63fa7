pub mod Differing
pub mod Keeping
pub mod SameEffects
pub mod Sources
pub mod Standing
pub mod Search
pub mod Walking
