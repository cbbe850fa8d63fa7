pub mod StoppedNumbers
pub mod MoveCounts
pub mod JournalCounts
pub mod KeptCounts
pub mod Once
pub mod AllJournals
