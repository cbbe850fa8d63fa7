pub mod Taking
pub mod Touches
pub mod Drafts
pub mod Verdicts
pub mod Naming
pub mod NextMoves
pub mod inner
