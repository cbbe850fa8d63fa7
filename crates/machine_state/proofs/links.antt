pub mod Linked
pub mod LinkedMoves
pub mod LinksAgree
pub mod Ordered
pub mod TakenJoins
pub mod ChainsStay
