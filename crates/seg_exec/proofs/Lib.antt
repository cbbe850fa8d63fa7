pub mod FinishedRooms
pub mod Segments
pub mod SnapshotsMet
