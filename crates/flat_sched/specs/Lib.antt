pub mod SoFar
pub mod Stuck
pub mod RunEnds
pub mod inner
