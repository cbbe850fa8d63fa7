pub mod Frames
pub mod Lasting
pub mod inner
