pub mod Page
pub mod RunPage
pub mod names
pub mod places
