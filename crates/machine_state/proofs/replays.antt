pub mod AllDone
pub mod OneLowest
pub mod Replayed
