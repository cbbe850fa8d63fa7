pub mod Recording
pub mod Emptying
pub mod Bringing
pub mod InHand
