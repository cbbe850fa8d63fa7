-- A frame on a control path, with its children out; and what a segment leaves of it.
pub mod Frames
pub mod AfterSegment
-- After a wait, after a make, and when nothing is left of the body.
pub mod AfterWait
pub mod AfterMake
pub mod EndedBody
