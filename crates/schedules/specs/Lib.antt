pub mod Chains
pub mod Graphs
pub mod Schedules
pub mod Sums
pub mod Timetables
pub mod inner
