mod Alike
mod AlikeMoves
pub mod Outcomes
mod AlikeChoices
pub mod EndedWays
mod Shown
mod Successors
mod Growing
