-- Segments over a stand.
pub mod Touching
pub mod Carrying
-- A task in hand, and what is found of it.
pub mod InHand
pub mod LeavingTurns
pub mod CommittedEntries
-- The start from a state: its entries, and the words and slots that show it.
pub mod Logs
pub mod Laid
pub mod Woken
-- The end: what was read from the words and slots, and the journal.
pub mod Taken
pub mod Readings
pub mod Rested
