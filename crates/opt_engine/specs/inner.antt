pub mod Hinting
pub mod Judging
pub mod Knowing
pub mod Noting
