pub mod FirstLine
pub mod Given
pub mod GivenToPrograms
