pub mod Standing
pub mod Acts
pub mod Covered
pub mod FailsEffect
pub mod inner
