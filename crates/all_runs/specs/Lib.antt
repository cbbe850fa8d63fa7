pub mod Explored
pub mod Extents
pub mod AllRuns
pub mod inner
