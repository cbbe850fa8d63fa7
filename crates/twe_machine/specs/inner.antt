pub mod Meeting
pub mod Nodes
pub mod UnderWay
