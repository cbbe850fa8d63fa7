pub mod LastBegun
pub mod Makings
pub mod Clashes
pub mod NextMoves
pub mod FaultSnapshots
