pub mod After
pub mod Marked
pub mod Words
pub mod Transfers
pub mod MarkedWords
