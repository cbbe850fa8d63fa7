pub mod Entries
pub mod Leading
pub mod Books
pub mod InWay
pub mod Listed
