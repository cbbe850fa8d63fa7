pub mod SafeRuns
pub mod Orders
