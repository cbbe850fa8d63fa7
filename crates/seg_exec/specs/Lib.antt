pub mod Snapshots
pub mod inner
