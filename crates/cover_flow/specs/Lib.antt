pub mod ControlPath
pub mod Steps
pub mod Out
pub mod Flow
pub mod inner
