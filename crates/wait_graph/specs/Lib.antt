pub mod Chain
pub mod Link
pub mod Waiting
pub mod Walk
pub mod StuckCycle
pub mod inner
