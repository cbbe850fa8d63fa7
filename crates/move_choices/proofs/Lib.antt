-- Declarations whose effects do not interfere as they are written do not whatever the arguments are.
mod DeclaredApart
-- What the test of `is_alone` shows.
mod Tested
