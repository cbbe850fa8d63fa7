-- Texts to which two or three pieces were appended.
pub mod Appended
