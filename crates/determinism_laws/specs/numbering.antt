pub mod Renumbering
pub mod SameAccesses
pub mod Played
pub mod Numberings
