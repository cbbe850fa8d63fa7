pub mod SafeJournals
