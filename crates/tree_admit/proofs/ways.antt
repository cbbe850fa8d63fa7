pub mod WayLemmas
pub mod ApartLemmas
pub mod ReachLemmas
