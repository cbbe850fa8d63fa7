-- a turn of the stack keeps the whole, and leaves less to do
pub mod Turning
-- the loop of the execution
pub mod Whole
