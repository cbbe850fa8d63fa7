-- One edit more is tried.
pub mod Trying
-- A text that is cut into tokens.
pub mod Cutting
-- A text that ends too early.
pub mod Ending
-- A rule of the text, of tokens or of names is none on effects.
pub mod Classes
