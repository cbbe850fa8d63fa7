pub mod Tasks
pub mod Conditions
pub mod States
pub mod Events
pub mod Entries
pub mod Rule
