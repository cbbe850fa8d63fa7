pub mod Nodes
pub mod GoesOver
pub mod FirstOver
pub mod inner
