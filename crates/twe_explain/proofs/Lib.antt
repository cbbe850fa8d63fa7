-- A call that is answered for another cause.
pub mod Widened
-- The answer to a text that is run.
pub mod RanTexts
