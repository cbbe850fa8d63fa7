-- beginnings of a journal
pub mod Beginnings
-- a journal without a fault, and one entry more
pub mod Faultless
-- a program may be shared by threads
pub mod Crossing
-- a quiet step that does not move finds how the run has ended
pub mod Endings
