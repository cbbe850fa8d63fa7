pub mod Bounds
pub mod GreedyStarts
pub mod InTurn
pub mod OneMore
pub mod Paced
pub mod PacedTimes
