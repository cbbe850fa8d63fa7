pub mod Admission
pub mod Conflicts
pub mod CoveredNow
pub mod Rows
pub mod Within
pub mod soundness
