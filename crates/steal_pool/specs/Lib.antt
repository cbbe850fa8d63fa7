pub mod Hand
pub mod Stands
pub mod DeckEnds
pub mod inner
