pub mod Admissions
pub mod Ancestors
pub mod Between
pub mod Climbing
mod Counting
pub mod Covered
pub mod FollowedStates
pub mod Further
pub mod Held
pub mod HeldProfiles
pub mod HeldStates
pub mod HeldTimes
pub mod LedStates
pub mod Longer
pub mod MarkKeys
pub mod Marked
mod Most
pub mod NotedEntries
pub mod NotedKeys
pub mod Numbered
pub mod OneHeld
mod PairOrder
pub mod Paths
pub mod Placing
pub mod Plans
mod Ranked
pub mod RisingNumbers
pub mod Rivalry
pub mod SharedKeys
pub mod Sharing
pub mod SpannedNodes
pub mod Spans
pub mod Starts
pub mod Statuses
pub mod Steps
pub mod StrandStages
mod Tallied
pub mod Told
mod Totals
pub mod Walked
pub mod WalkedWays
